use Rattle.std.proofs.Common.{◌≡◌, false, refl, arith, rules}
use Rattle.std.proofs.lemmas.Bool.Decides.{nat_tests}
use Rattle.std.proofs.lemmas.List.{append-nil}
use Rattle.glk_world.specs.Calls.{is_identifier}
use Rattle.glk_object_calls.specs.References.{stream_open_file}
use Rattle.glk_object_calls.proofs.Closing.{answering}
use Rattle.glk_object_calls.proofs.Loading.{none_left, written_alone}
use Rattle.glk_object_calls.proofs.references.stream_open_file.Goals as goal

pub returns-then-next_id-gt-LAST_IDENTIFIER-clause-value : goal.returns-then-next_id-gt-LAST_IDENTIFIER-clause-value
returns-then-next_id-gt-LAST_IDENTIFIER-clause-value c =
    let none : is_identifier c.args.world.now.scene.next_id ≡ false =
    grind (arith, nat_tests, c.next_id.ensures, c.if-next_id-gt-LAST_IDENTIFIER.true) in
    rw (
      none_left c.args.world.now.scene c.args.selector c.args.args.now none,
      c.reply.ensures,
      append-nil c.args.world.now.text,
    ) refl

pub returns-in-1-clause-fits : goal.returns-in-1-clause-fits
returns-in-1-clause-fits c f room = let fits = c.open_with.ensures.fits f room in search rules

pub returns-in_err-name-in-2-clause-value : goal.returns-in_err-name-in-2-clause-value
unfolding stream_open_file
returns-in_err-name-in-2-clause-value c = search rules

pub returns-in_ok-name-in-2-clause-value : goal.returns-in_ok-name-in-2-clause-value
unfolding stream_open_file
returns-in_ok-name-in-2-clause-value c = search rules

pub returns-in_default-clause-value : goal.returns-in_default-clause-value
unfolding stream_open_file
returns-in_default-clause-value c = search rules

pub returns-in-1-clause-value : goal.returns-in-1-clause-value
returns-in-1-clause-value c =
    let is : c.map.result ≡ answering c.open_with.result = search rules in
    let done = c.open_with.ensures.value in
    rw is (written_alone _ c.open_with.new.world _ _ _ _ _ c.arg.ensures c.in-1.is c.new-empty.ensures done)
