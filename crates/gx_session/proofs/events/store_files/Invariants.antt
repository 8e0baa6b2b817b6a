use Rattle.std.proofs.Common.{◌≡◌, map, take}
use Rattle.std.specs.List.{filter_map}
use Rattle.glk_streams.specs.Stream.{stored_file}
use Rattle.gx_outside.specs.Chains.{IsCalled}
use Rattle.gx_session.specs.Devices.{Devices}
use Rattle.gx_session.specs.Endings.{store_call}
use Rattle.gx_session.proofs.Keeping.{Stays}
use Rattle.gx_session.proofs.events.store_files.Given as goal

abbrev pub invariant-loop-at : goal.invariant-loop-at
invariant-loop-at g l = record {
  stored : IsCalled g.F.Shelf.called l.initial.shelf l.shelf
      (λ calls. calls ≡ map store_call (filter_map stored_file (take l.at l.streams)));
  stays : (d : Devices)
      → Stays (record d { shelf = g.F.Shelf.seen l.initial.shelf }) (record d { shelf = g.F.Shelf.seen l.shelf });
}
