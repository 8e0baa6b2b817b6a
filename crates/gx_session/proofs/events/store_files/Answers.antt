use Rattle.std.proofs.Common.{◌+◌, ◌++◌, ℕ, List, map, take, drop, get_or, refl, ap, subst, sym, ◌∙◌, arith}
use Rattle.std.proofs.lemmas.List.{take_all, map-append}
use Rattle.std.proofs.lemmas.Result.{err_from_is_err_and}
use Rattle.std.specs.List.{filter_map}
use Rattle.std.specs.Option.{option_to_list}
use Rattle.glk_streams.specs.Stream.{stored_file}
use Rattle.glk_streams.specs.Streams.{no_stream}
use Rattle.glk_streams.specs.declared.kinds.Stream.{Stream}
use Rattle.gx_outside.specs.Shelves.{Trace}
use Rattle.gx_session.specs.Devices.{Devices}
use Rattle.gx_session.specs.Endings.{store_call}
use Rattle.gx_session.specs.Finishing.{StoredSome}
use Rattle.gx_session.proofs.Calling.{called-none, called-on, called-as}
use Rattle.gx_session.proofs.Keeping.{stays-none, stays-of, stays-on, keeps-after, keeps-still}
use Rattle.gx_session.proofs.Storing.{stopped-more, stores-front, stores-all}
use Rattle.gx_session.proofs.events.store_files.Goals as goal

pub loop-at-init : goal.loop-at-init
loop-at-init g c = record {
  stored = called-none g.F.Shelf.called c.args.shelf.now _ refl;
  stays = λ d. stays-none (record d { shelf = g.F.Shelf.seen c.args.shelf.now });
}

pub returns-in_err-store_file-clause-stores : goal.returns-in_err-store_file-clause-stores
returns-in_err-store_file-clause-stores g c =
    let p = err_from_is_err_and c.from_residual.result c.from_residual.ensures.1 in
    let streams : List Stream = c.streams-streams.result.now in
    let i : ℕ = c.loop-at.at in
    let front : List (List ℕ × List ℕ) = filter_map stored_file (take i streams) in
    let other : List (List ℕ × List ℕ) = option_to_list (stored_file (get_or streams i no_stream)) in
    let rest : List (List ℕ × List ℕ) = filter_map stored_file (drop (i + 1) streams) in
    let why = c.in_err-store_file.field-0.0 in
    rw (p.1, p.2)
    (called-on g.F.Shelf.called c.args.shelf.now c.loop-at.shelf c.store_file.new.shelf _ _ _ c.loop-at.invariant.stored
    c.in_err-store_file.ensures.stores
    (λ one two before refused.
    subst (λ (x : List Stream). StoredSome (filter_map stored_file x) (one ++ two) why) c.streams-streams.ensures
    (subst (λ (x : List (List ℕ × List ℕ)). StoredSome x (one ++ two) why) (sym (stores-all streams i (omega arith)))
    (stopped-more front other one two why before refused rest))))

pub returns-in_err-store_file-clause-keeps : goal.returns-in_err-store_file-clause-keeps
returns-in_err-store_file-clause-keeps g c d =
    let p = err_from_is_err_and c.from_residual.result c.from_residual.ensures.1 in
    let a : Devices = record d { shelf = g.F.Shelf.seen c.args.shelf.now } in
    let b : Devices = record d { shelf = g.F.Shelf.seen c.loop-at.shelf } in
    let e : Devices = record d { shelf = g.F.Shelf.seen c.store_file.new.shelf } in
    rw (p.1, p.2) (keeps-after a b e _ (c.loop-at.invariant.stays d) (c.in_err-store_file.ensures.keeps d))

pub loop-at-preserved : goal.loop-at-preserved
loop-at-preserved g c =
    let streams : List Stream = c.streams-streams.result.now in
    let i : ℕ = c.loop-at.at in
    let front : List (List ℕ × List ℕ) = filter_map stored_file (take i streams) in
    let other : List (List ℕ × List ℕ) = option_to_list (stored_file (get_or streams i no_stream)) in
    let before : Devices → Devices = λ d. record d { shelf = g.F.Shelf.seen c.args.shelf.now } in
    let mid : Devices → Devices = λ d. record d { shelf = g.F.Shelf.seen c.loop-at.shelf } in
    let now : Devices → Devices = λ d. record d { shelf = g.F.Shelf.seen c.store_file.new.shelf } in
    record {
      stored = called-on g.F.Shelf.called c.args.shelf.now c.loop-at.shelf c.store_file.new.shelf _ _ _
          c.loop-at.invariant.stored c.in_ok-store_file.ensures.stores
          (λ one two first second.
          ap (λ (x : Trace). x ++ two) first ∙ ap (λ (x : Trace). map store_call front ++ x) second
          ∙ sym (map-append store_call front other)
          ∙ ap (map store_call) (sym (stores-front streams i (omega arith))));
      stays = λ d. stays-on (before d) (mid d) (now d) (c.loop-at.invariant.stays d)
          (stays-of (mid d) (now d) tt (c.in_ok-store_file.ensures.keeps d));
    }

pub returns-clause-stores : goal.returns-clause-stores
returns-clause-stores g c =
    let streams : List Stream = c.streams-streams.result.now in
    called-as g.F.Shelf.called c.args.shelf.now c.loop-at.shelf _ _ c.loop-at.invariant.stored
    (λ calls stored.
    stored
    ∙ ap (λ (x : List Stream). map store_call (filter_map stored_file x))
    (take_all c.loop-at.at streams (omega arith) ∙ c.streams-streams.ensures))

pub returns-clause-keeps : goal.returns-clause-keeps
returns-clause-keeps g c d =
    keeps-still (record d { shelf = g.F.Shelf.seen c.args.shelf.now })
    (record d { shelf = g.F.Shelf.seen c.loop-at.shelf }) _ (c.loop-at.invariant.stays d)
