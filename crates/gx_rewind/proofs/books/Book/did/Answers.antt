-- the event has ended, or waits for its answer
use Rattle.std.proofs.Common.{refl}
use Rattle.gx_state.specs.declared.effects.Effect.TheVariants.{Went, Drew, Quit}
use Rattle.gx_rewind.proofs.Ended.{costs, quiet-fit, drew-fit, ended-quiet, ended-drew, ended-rest}
use Rattle.gx_rewind.proofs.Kept.{like-book}
use Rattle.gx_rewind.proofs.books.Book.did.Goals as goal

pub returns-in-Went : goal.returns-in-Went
returns-in-Went g c =
    rw c.in-Went.is (λ before new budget left log book asks step cost stands.
    ended-quiet c.went.new.self before new c.args.word budget left Went log (λ no. cc) (λ no. cc) refl step refl
    (c.went.ensures.book before.machine log book
    (costs before new c.args.word budget left c.args.cost Went (λ no. cc) step cost)
    (quiet-fit g.row.A.Denot before new c.args.word budget left Went (λ no. cc) (λ no. cc) tt step)))

pub returns-in-Quit : goal.returns-in-Quit
returns-in-Quit g c =
    rw c.in-Quit.is (λ before new budget left log book asks step cost stands.
    ended-quiet c.went-in-Quit.new.self before new c.args.word budget left Quit log (λ no. cc) (λ no. cc) refl step refl
    (c.went-in-Quit.ensures.book before.machine log book
    (costs before new c.args.word budget left c.args.cost Quit (λ no. cc) step cost)
    (quiet-fit g.row.A.Denot before new c.args.word budget left Quit (λ no. cc) (λ no. cc) tt step)))

pub returns-in-Drew : goal.returns-in-Drew
returns-in-Drew g c =
    rw c.in-Drew.is (λ before new budget left log book asks step cost stands.
    ended-drew c.noted.new.self before new c.args.word budget left log step
    (c.noted.ensures.book before.machine log book
    (costs before new c.args.word budget left c.args.cost Drew (λ no. cc) step cost)
    (drew-fit g.row.A.Denot before new c.args.word budget left step)))

pub returns-in_default : goal.returns-in_default
returns-in_default g c =
    λ before new budget left log book asks step cost stands.
    ended-rest _ before new c.args.word budget left c.args.effect.now log
    (like-book c.args.self.now _ before.machine log book refl refl refl refl refl book.checkpoints) asks
    c.in_default.not-Went c.in_default.not-Quit c.in_default.not-Drew step cost c.requires.fits stands
