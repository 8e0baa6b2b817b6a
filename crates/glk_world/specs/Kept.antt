-- What contracts see of a world, and what holds of its fields.
use Rattle.std.specs.Prelude.{string_bytes, Option, Some, None}
use Rattle.std.specs.Option.{option_map}
use Rattle.glk_objects.specs.Objects.{AreRising, IsAboveAll, IsBelowAll}
use Rattle.glk_streams.specs.Streams as streams
use Rattle.glk_windows.specs.Windows.{IsNewId}
use Rattle.glk_world.specs.declared.world.World.TheInside.{Inside}
use Rattle.glk_world.specs.declared.world.Waiting.{Waiting}
use Rattle.glk_world.specs.Chains.{AreLinked}
use Rattle.glk_world.specs.Naming.{AreNamed}
use Rattle.glk_world.specs.World.{WaitingCall, FlatWorld, reference_id}

-- a call that waits
abbrev pub flat_call : Waiting → WaitingCall
flat_call call = record { selector = call.selector; arguments = call.args.items }

abbrev pub waiting_of : Option Waiting → Option WaitingCall
waiting_of None = None
waiting_of (Some call) = Some (flat_call call)

abbrev pub flat_of : Inside → FlatWorld
flat_of w = record {
  scene = record {
    windows = w.windows;
    view = w.view;
    shown = w.shown.items;
    screen = w.screen;
    last_screen = option_map string_bytes w.last_screen;
    streams = w.streams;
    references = w.references.items;
    requests = w.requests;
    current = w.current;
    next_id = w.next_id;
    row = w.row;
    fresh = w.fresh;
    waiting = waiting_of w.waiting;
  };
  text = string_bytes w.text;
}

-- The next identifier is above all that were given, none of them is 0, no chain of echo streams comes back to where it
-- was, and windows and streams name each other.
pub record WorldInvariant (w : Inside) : Type 0 where
  pub windows : IsNewId w.windows w.next_id
  pub streams : IsAboveAll streams.id_of w.streams w.next_id
  pub references : AreRising reference_id w.references.items
  pub above : IsAboveAll reference_id w.references.items w.next_id
  pub first : IsBelowAll reference_id w.references.items 0
  pub links : AreLinked w.windows.entries w.streams w.next_id
  pub named : AreNamed w.windows.entries w.streams
