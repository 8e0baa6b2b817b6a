-- nothing is recorded yet
use Rattle.std.proofs.Common.{ap}
use Rattle.gx_machine.specs.Log.{Log, no_events}
use Rattle.gx_rewind.specs.Tape.{FlatTape}
use Rattle.gx_rewind.proofs.Kept.{booked, logged}
use Rattle.gx_rewind.proofs.Ended.{none-asked}
use Rattle.gx_rewind.proofs.Tape.new.Goals as goal

pub invariant_of-result : goal.invariant_of-result
invariant_of-result g c = record {
  book = booked c.in_ok-book.book c.args.machine.machine no_events c.in_ok-book.ensures;
  pends = none-asked c.in_ok-book.book c.args.machine c.requires.asks;
}

pub returns : goal.returns
returns g c = ap (λ (log : Log). let t : FlatTape = record { whole = c.args.machine; log = log } in t)
    (logged c.in_ok-book.book c.args.machine.machine no_events c.in_ok-book.ensures)
