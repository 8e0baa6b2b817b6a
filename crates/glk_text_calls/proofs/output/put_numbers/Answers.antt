use Rattle.std.proofs.Common.{◌≡◌, false, true, refl, rules}
use Rattle.std.proofs.lemmas.Result.{err_from_is_err_and}
use Rattle.glk_streams.specs.Streams as streams
use Rattle.glk_world.specs.World.{after}
use Rattle.glk_world.specs.Putting.{put_chars, takes_chars}
use Rattle.glk_replies.specs.Parts.{replies, numbers_in}
use Rattle.glk_replies.proofs.Counting.{count_numbers}
use Rattle.glk_text_calls.proofs.Puts.{some_put, put_nowhere, put_refused, put_wanted, few_read, some_read}
use Rattle.glk_text_calls.proofs.Puts.{numbers_end, put_ends_fit, put_filled, nothing_filled}
use Rattle.glk_text_calls.proofs.output.put_numbers.Goals as goal

pub returns-then-not-has-clause-value : goal.returns-then-not-has-clause-value
returns-then-not-has-clause-value g c =
    let gone : streams.has c.args.world.now.scene.streams c.args.stream ≡ false = search rules in
    rw c.reply.ensures (put_nowhere _ _ _ _ gone)

pub returns-in_err-can_lay-clause-value : goal.returns-in_err-can_lay-clause-value
returns-in_err-can_lay-clause-value g c =
    let p = err_from_is_err_and c.from_residual.result c.from_residual.ensures.1 in
    let there : streams.has c.args.world.now.scene.streams c.args.stream ≡ true = search rules in
    rw (p.1, p.2) (
    put_refused _ _ _ _ _ _ _ c.places-places.ensures.value (count_numbers _ _ _ _) there
    c.in_err-can_lay.ensures.value
    )

pub returns-then-not-takes-clause-value : goal.returns-then-not-takes-clause-value
returns-then-not-takes-clause-value g c =
    let w = c.args.world.now in
    let cs = numbers_in c.args.width c.args.state.now.flat.memory c.args.at c.args.count in
    let there : streams.has w.scene.streams c.args.stream ≡ true = search rules in
    let unseen : takes_chars w.scene c.args.stream ≡ false = search rules in
    let made : c.put_unseen.new.world ≡ after w (put_chars w.scene c.args.stream cs) = search rules in
    let none : c.places-places.result.count ≡ 0 =
    rw c.places-places.ensures.value (c.takes.ensures.places (rw unseen refl) c.args.count) in
    rw c.reply-then-not-takes.ensures (put_filled w c.put_unseen.new.world c.args.state.now.flat c.args.stream c.args.count cs
    c.places-places.result (replies 0) c.places-places.ensures.value (count_numbers _ _ _ _) there
    c.in_ok-can_lay.ensures.value made (nothing_filled c.places-places.result cs none))

pub returns-in_err-numbers-clause-value : goal.returns-in_err-numbers-clause-value
returns-in_err-numbers-clause-value g c =
    let p = err_from_is_err_and c.from_residual-in_err-numbers.result c.from_residual-in_err-numbers.ensures.1 in
    let there : streams.has c.args.world.now.scene.streams c.args.stream ≡ true = search rules in
    let takes : takes_chars c.args.world.now.scene c.args.stream ≡ true = search rules in
    rw (p.1, p.2) (put_wanted _ _ _ _ _ _ _
    (some_put c.args.world.now.scene c.args.stream c.args.count there takes c.in_err-numbers.ensures.memory)
    c.places-places.ensures.value (count_numbers _ _ _ _) there c.in_ok-can_lay.ensures.value)

pub returns-in_err-puts-clause-value : goal.returns-in_err-puts-clause-value
returns-in_err-puts-clause-value g c =
    let p = err_from_is_err_and c.from_residual-in_err-puts.result c.from_residual-in_err-puts.ensures.1 in
    let there : streams.has c.args.world.now.scene.streams c.args.stream ≡ true = search rules in
    let takes : takes_chars c.args.world.now.scene c.args.stream ≡ true = search rules in
    let read : c.as_slice-chars.result.now ≡ numbers_in c.args.width c.memory-2.result.now c.args.at c.args.count =
    search rules in
    rw (p.1, p.2) (put_wanted _ _ _ _ _ _ _
    (some_read c.args.state.now.flat c.args.width c.args.at c.args.count c.memory-2.result.now
    c.as_slice-chars.result.now c.memory-2.ensures.value read c.args.world.now.scene c.args.stream there takes
    c.in_err-puts.ensures.memory)
    c.places-places.ensures.value (count_numbers _ _ _ _) there c.in_ok-can_lay.ensures.value)

pub returns-clause-value : goal.returns-clause-value
returns-clause-value g c =
    let there : streams.has c.args.world.now.scene.streams c.args.stream ≡ true = search rules in
    let takes : takes_chars c.args.world.now.scene c.args.stream ≡ true = search rules in
    let read : c.as_slice-chars.result.now ≡ numbers_in c.args.width c.memory-2.result.now c.args.at c.args.count =
    search rules in
    numbers_end c.args.state.now.flat c.args.width c.args.at c.args.count c.memory-2.result.now
    c.as_slice-chars.result.now c.memory-2.ensures.value read c.args.world.now c.puts.new.self c.args.stream
    c.places-places.result c.filled.result c.places-places.ensures.count c.places-places.ensures.value there takes
    c.in_ok-can_lay.ensures.value c.in_ok-puts.ensures.ok c.filled.ensures

pub returns-clause-fits : goal.returns-clause-fits
returns-clause-fits g c =
    let read : c.as_slice-chars.result.now ≡ numbers_in c.args.width c.memory-2.result.now c.args.at c.args.count =
    search rules in
    put_ends_fit c.args.state.now.flat c.args.world.now.scene c.args.stream c.args.count 0
    c.as_slice-chars.result.now c.places-places.result c.filled.result c.places-places.ensures.value
    (few_read c.args.state.now.flat c.args.width _ _ _ _ c.memory-2.ensures.value read _ c.places-places.ensures.count)
    c.in_ok-can_lay.ensures.value c.filled.ensures

pub filled-requires-clause-count : goal.filled-requires-clause-count
filled-requires-clause-count g c =
    let read : c.as_slice-chars.result.now ≡ numbers_in c.args.width c.memory-2.result.now c.args.at c.args.count =
    search rules in
    few_read c.args.state.now.flat c.args.width _ _ _ _ c.memory-2.ensures.value read _ c.places-places.ensures.count
