pub mod PackingTurns
pub mod UnpackingTurns
pub mod RoundTrip
