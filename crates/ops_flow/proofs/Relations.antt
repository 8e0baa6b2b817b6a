-- A call that takes no memory does its work whatever may want some.
use Rattle.std.proofs.Common.{Result, Ok, Err}
use Rattle.gx_words.specs.declared.faults.Fault.{Fault}
use Rattle.gx_state.specs.Flat.{FlatState}
use Rattle.gx_state.specs.Relations.{Goes, Works}

pub Works-from_goes : {X : Type 0} (wants : Type 0) (r : Result X Fault) (old new : FlatState)
    (defined : Result (FlatState × X) Fault) → Goes r old new defined → Works wants r old new defined
Works-from_goes wants (Ok x) old new defined went = went
Works-from_goes wants (Err e) old new defined went = (went.0, ((λ other. went.1), (λ same. absurd (went.2 same))))

pub ruleset relations = (Works-from_goes)
