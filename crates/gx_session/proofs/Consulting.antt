-- A device is asked in the middle of a Glk call, once the pending text is sent.
use Rattle.std.proofs.Common.{◌≡◌, ℕ, ◌⊎◌, Bool, true, false, List, [], ◌∷◌, ◌++◌, Option, Some, None, Result, Ok}
use Rattle.std.proofs.Common.{Err, refl, ap, subst, sym, ◌∙◌}
use Rattle.gx_machine.specs.declared.askings.Asking.{Asking}
use Rattle.gx_outside.specs.Outside.{FlatSource, FlatShelf}
use Rattle.gx_outside.specs.Shelves.{Answer}
use Rattle.gx_outside.specs.declared.devices.ShelfFault.{ShelfFault}
use Rattle.glk_world.specs.World.{FlatWorld}
use Rattle.glk_replies.specs.declared.Turn.{Turn}
use Rattle.gx_session.specs.declared.ends.Halt.{Halt}
use Rattle.gx_session.specs.declared.ends.Halt.TheVariants as halt
use Rattle.gx_session.specs.declared.ends.Stop.TheVariants as stop
use Rattle.gx_session.specs.declared.lines.NoLine.{NoLine}
use Rattle.gx_session.specs.declared.lines.NoLine.TheVariants as no
use Rattle.gx_session.specs.declared.questions.Question.{Question}
use Rattle.gx_session.specs.declared.running.GlkWait.{GlkWait}
use Rattle.gx_session.specs.Wants.{IsWait, LineWants}
use Rattle.gx_session.specs.Moves.{request_of}
use Rattle.gx_session.specs.Input.{NextLine, none, too_long, line, next_line, HasChars}
use Rattle.gx_session.specs.Questions.{turn_of, request_for, AreTold}
use Rattle.gx_session.specs.Reading.{TakesLine, HoldsFew, ReadsFew, failures}
use Rattle.gx_session.specs.Configurations.{Configuration, asks, goes_on}
use Rattle.gx_session.specs.Moves.{given_of}
use Rattle.gx_session.specs.Asked.{asked}
use Rattle.gx_session.specs.Holding.{SendStep, Handed, HeldRun, WordIs}
use Rattle.gx_session.specs.Standing.{Ready, IsInCall, TakesInput, Early}
use Rattle.gx_session.specs.Outcomes.{Flushes, EventGives, halt_of_shelf, without_line}
use Rattle.gx_session.proofs.Asking.{request-is, shelf-answers, line-stops}
use Rattle.gx_session.proofs.Feeding.{reads-on}
use Rattle.gx_session.proofs.Playing.{here, flushed, cut-send, refused, unread, wants-line}
use Rattle.gx_session.proofs.Steps.{asked-by-word}
use Rattle.rand_core.specs.Stream.{Stream, next_u32}

-- the next word, where one may be in hand
next-word : (word : Option ℕ) (stream a b : Stream) → WordIs word stream a → WordIs word stream b
    → (next_u32 a).0 ≡ (next_u32 b).0
next-word None stream a b is is' = ap (λ (s : Stream). (next_u32 s).0) (is ∙ sym is')
next-word (Some w) stream a b is is' = ap (λ (p : ℕ × Stream). p.0) (is ∙ sym is')

-- a line that has characters may want memory
chars-want : (echo : Bool) (next : NextLine) → HasChars next → LineWants echo next
chars-want true (line chars rest) some = tt
chars-want true none some = absurd some
chars-want true too_long some = absurd some
chars-want false next some = some

module _ {K : Type 0} {sending : SendStep K} (start : Configuration) (entry : Handed sending) (h : HeldRun)
    (asking : Option Asking) (d : Handed sending) (t : Turn) (w : GlkWait)
    (waits : IsInCall start entry h asking d (asks t w)) (world : FlatWorld) (sink : K) where
  abbrev h1 : HeldRun
  h1 = record h { world = world }

  abbrev d1 : Handed sending
  d1 = record d { sink = sink }

  -- the text that was due before it was refused
  pub text-refused : (e : Halt) → (e ≡ halt.Output) ⊎ (e ≡ halt.NoMemory)
      → Flushes sending 1 d.sink sink h.world world (Err e) → EventGives start entry h1 asking d1 (Err e)
  text-refused e only f = cut-send start entry h d world sink (asks t w) 1
      (λ s text. refl) asking e waits.now waits.asking_is only f

  module _ (f : Flushes sending 1 d.sink sink h.world world (Ok tt)) where
    ready : Ready start entry h1 d1 (asks t w)
    ready = flushed start entry h d world sink (asks t w) 1 (λ s text. refl) waits.now f

    asks-is : asking ≡ asked (here start entry h1 d1 (asks t w) ready.now)
    asks-is =
        waits.asking_is
        ∙ asked-by-word (here start entry h d (asks t w) waits.now) (here start entry h1 d1 (asks t w) ready.now) refl
        (next-word h.word d.words waits.now.past.words ready.now.past.words waits.now.is_past.word
        ready.now.is_past.word)

    -- THE SHELF
    module _ (shelf : FlatShelf) (q : Question) (is : t ≡ turn_of q) where
      -- it refused
      pub shelf-refused : (fault : ShelfFault) → AreTold start.answers d.asked ((request_for q, Err fault) ∷ [])
          → Early start entry h1 asking (record d1
          { shelf = shelf; asked = d.asked ++ (request_for q, Err fault) ∷ [] }) (halt_of_shelf fault)
      shelf-refused fault told = refused start entry h1 d1 w t ready shelf (request_for q) fault asking
          (ap request_of is ∙ request-is q) told asks-is

      -- it answered
      pub shelf-answered : (answer : Answer) → AreTold start.answers d.asked ((request_for q, Ok answer) ∷ [])
          → IsInCall start entry h1 asking (record d1
          { shelf = shelf; asked = d.asked ++ (request_for q, Ok answer) ∷ [] }) (goes_on (given_of answer) w)
      shelf-answered answer told =
          let r : Ready start entry h1 d1 (asks (turn_of q) w) =
          subst (λ (x : Turn). Ready start entry h1 d1 (asks x w)) is ready in
          shelf-answers start entry h1 d1 asking w q r shelf answer told.0
          (waits.asking_is
          ∙ asked-by-word (here start entry h d (asks t w) waits.now)
          (here start entry h1 d1 (asks (turn_of q) w) r.now) refl
          (next-word h.word d.words waits.now.past.words r.now.past.words waits.now.is_past.word r.now.is_past.word))

    -- THE INPUT
    module _ (is : IsWait t) (ahead coming : List ℕ) (over : Bool) (source : FlatSource)
        (told : source.tells ≡ true → coming ≡ source.left) where
      abbrev h2 : HeldRun
      h2 = record h1 { ahead = ahead; coming = coming; over = over }

      abbrev d2 : Handed sending
      d2 = record d1 { source = source }

      -- the reads since the run began
      reads-so : (more : ℕ) → ReadsFew h.over over d.source source h.coming coming more
          → ReadsFew false over entry.source source start.input coming more
      reads-so more now = reads-on false h.over over entry.source d.source source start.input h.coming coming more
          waits.now.is_past.reads now

      -- a line was taken
      pub line-came : (chars : List ℕ) → TakesLine (h.ahead ++ h.coming) (ahead ++ coming) (Ok chars)
          → ReadsFew h.over over d.source source h.coming coming 0
          → HoldsFew ahead (let r : Result (List ℕ) NoLine = Ok chars in r)
          → TakesInput start entry h2 asking d2 chars w
      line-came chars takes reads few = record {
        turn = t;
        ahead = h.ahead;
        coming = h.coming;
        over = h.over;
        source = d.source;
        is_wait = is;
        going = ready;
        taken = takes;
        few = few;
        left = told;
        reads = reads-so 0 reads;
        asking_is = asks-is;
      }

      -- none was
      pub no-line-came : (e : NoLine) → TakesLine (h.ahead ++ h.coming) (ahead ++ coming) (Err e)
          → ReadsFew h.over over d.source source h.coming coming
          (failures (let r : Result (List ℕ) NoLine = Err e in r))
          → HoldsFew ahead (let r : Result (List ℕ) NoLine = Err e in r)
          → EventGives start entry h2 asking d2 (without_line e)
      no-line-came no.Ended takes reads few =
          line-stops start entry h1 d1 asking w t is ready asks-is stop.InputEnded none h2 source takes.0 refl tt refl
          takes.1 told (reads-so 0 reads) (λ long. few) refl
      no-line-came no.TooLong takes reads few =
          line-stops start entry h1 d1 asking w t is ready asks-is stop.LineTooLong too_long h2 source takes.0 refl tt
          refl takes.1 told (reads-so 0 reads) (λ long. absurd (long refl)) refl
      no-line-came no.Failed takes reads few = unread start entry h1 d1 w t ready h2 source asking is told
          (reads-so 1 reads) few takes refl refl refl asks-is
      no-line-came no.NoMemory takes reads few =
          wants-line start entry h1 d1 (asks t w) ready h2 source asking is
          (asks-is, is, chars-want h.echo (next_line (h.ahead ++ h.coming)) takes.0) refl refl refl
