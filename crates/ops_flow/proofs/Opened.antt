-- The definitions that the proof of one call opens together.
use Rattle.gx_state.proofs.Opened.{pushing_stubs}
use Rattle.ops_flow.specs.Catches.{with_stub}

unfoldable pub pushing_stub : Unit {0}
unfolding with_stub pushing_stubs
pushing_stub = tt
