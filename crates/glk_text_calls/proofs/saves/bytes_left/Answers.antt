use Rattle.std.proofs.Common.{◌≡◌, ◌∙◌, ℕ, List, take, drop, ap, refl, rules, Some}
use Rattle.glk_streams.specs.Stream as one
use Rattle.glk_streams.specs.Streams as streams
use Rattle.glk_world.proofs.Alone.{on_err}
use Rattle.glk_text_calls.specs.PuttingSaves.{as_bytes}
use Rattle.glk_text_calls.proofs.Rests.{latin_taken, latin_grows, found_taken, found_grows}
use Rattle.glk_text_calls.proofs.saves.bytes_left.Goals as goal

pub returns-in-Some-clause-value : goal.returns-in-Some-clause-value
returns-in-Some-clause-value g c =
    let latin : one.latin_rest (streams.stream c.args.world.now.scene.streams c.args.stream) ≡ Some c.in-Some.rest.now =
    search rules in
    let small : as_bytes c.in_ok-bytes.bytes ≡ Some c.in_ok-bytes.bytes = search rules in
    latin_taken c.args.world.now.scene c.args.state.now.flat c.args.stream c.in-Some.rest.now latin c.requires.within
    c.in_ok-bytes.bytes c.requires.there c.in_ok-bytes.ensures.value small

pub returns-in_err-bytes-clause-memory : goal.returns-in_err-bytes-clause-memory
returns-in_err-bytes-clause-memory g c =
    let latin : one.latin_rest (streams.stream c.args.world.now.scene.streams c.args.stream) ≡ Some c.in-Some.rest.now =
    search rules in
    on_err c.from_residual.result
    (latin_grows c.args.world.now.scene c.args.state.now.flat c.args.stream c.in-Some.rest.now latin
    c.requires.within c.requires.there c.in_err-bytes.ensures.memory)

pub returns-then-are_bytes-clause-value : goal.returns-then-are_bytes-clause-value
returns-then-are_bytes-clause-value g c =
    let all = c.if-are_bytes.ensures in
    let small : as_bytes c.in_ok-bytes-2.bytes ≡ Some c.in_ok-bytes-2.bytes = search rules in
    found_taken c.args.world.now.scene c.args.state.now.flat c.args.stream c.args.most c.args.places c.requires.there
    c.requires.reads c.requires.within c.requires.places c.requires.most (all.some refl) (all.all refl)
    (all.width refl) (all.there refl) c.in_ok-bytes-2.bytes
    (c.in_ok-bytes-2.ensures
    ∙ ap (λ (m : List ℕ). take c.args.most (drop c.args.places.at m)) c.memory.ensures.value) small

pub returns-in_err-bytes-2-clause-memory : goal.returns-in_err-bytes-2-clause-memory
returns-in_err-bytes-2-clause-memory g c =
    let all = c.if-are_bytes.ensures in
    on_err c.from_residual-in_err-bytes-2.result
    (found_grows c.args.world.now.scene c.args.state.now.flat c.args.stream c.args.most c.args.places
    c.requires.there c.requires.reads c.requires.within c.requires.places c.requires.most (all.some refl)
    (all.all refl) (all.width refl) (all.there refl))
