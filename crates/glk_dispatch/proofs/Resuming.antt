-- A call that waits goes on, and waits again after a fault.
use Rattle.std.proofs.Common.{◌≡◌, [], ◌++◌, refl, Option, None}
use Rattle.std.proofs.lemmas.List.{append-nil}
use Rattle.glk_world.specs.World.{WaitingCall, FlatWorld, Said, after, silent}

-- what says nothing and waits again is as before
pub waits_again : (w : FlatWorld) (call : Option WaitingCall) → call ≡ w.scene.waiting
    → after (after w (silent (record w.scene { waiting = None }))) (silent (record w.scene { waiting = call })) ≡ w
waits_again w call same = rw same (rw (append-nil (w.text ++ []), append-nil w.text) refl)

-- it begins where nothing was said
pub waits_no_longer : (w : FlatWorld) (said : Said)
    → after (after w (silent (record w.scene { waiting = None }))) said ≡ after w said
waits_no_longer w said = rw (append-nil w.text) refl

pub ruleset going_rules = (waits_again, waits_no_longer)
