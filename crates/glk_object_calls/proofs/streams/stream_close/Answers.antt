use Rattle.std.proofs.Common.{◌≡◌, true, false, is_some, rules}
use Rattle.glk_world.specs.World.{arg}
use Rattle.glk_object_calls.specs.Streams.{file_to_store}
use Rattle.glk_object_calls.proofs.Closing.{answering, closes_now, stores}
use Rattle.glk_object_calls.proofs.streams.stream_close.Goals as goal

pub returns-then-not-is_stored-clause-value : goal.returns-then-not-is_stored-clause-value
returns-then-not-is_stored-clause-value g c =
    let none : is_some (file_to_store c.args.world.now.scene (arg c.args.args.now 0)) ≡ false = search rules in
    let is : c.map.result ≡ answering c.close.result = search rules in
    let world = c.args.world.now in let f = c.args.state.now.flat in
    rw is (closes_now world c.close.new.world f c.args.room c.args.args.now _ none c.close.ensures.value)

pub returns-clause-value : goal.returns-clause-value
returns-clause-value g c =
    let some : is_some (file_to_store c.args.world.now.scene c.arg-id.result) ≡ true = search rules in
    let taken = c.take_file-name.ensures in let there = c.in_ok-can_give_pair.ensures in
    stores _ _ _ _ _ _ _ _ _ c.arg-id.ensures c.arg.ensures some taken.value there taken.new c.wait.ensures
