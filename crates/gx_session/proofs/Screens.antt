-- The last screen of a run.
use Rattle.std.proofs.Common.{◌≡◌, None, Option, refl, ap, subst, sym, ◌∙◌, map}
use Rattle.std.specs.List.{concat}
use Rattle.gx_machine.specs.declared.askings.Asking.{Asking}
use Rattle.glk_world.specs.World.{FlatWorld, after}
use Rattle.glk_world.specs.Shown.{end_text, EndWants}
use Rattle.gx_session.specs.declared.ends.Stop.{Stop}
use Rattle.gx_session.specs.declared.ends.Stop.TheVariants as stop
use Rattle.gx_session.specs.declared.ends.Halt.TheVariants as halt
use Rattle.gx_session.specs.Cuts.{by_memory, IsLineStop}
use Rattle.gx_session.specs.Reads.{LeavesInput}
use Rattle.gx_session.specs.Sending.{whole_send}
use Rattle.gx_session.specs.Configurations.{Configuration}
use Rattle.gx_session.specs.Session.{RunEnd, stop_of, final_of}
use Rattle.gx_session.specs.Asked.{asked_at}
use Rattle.gx_session.specs.Holding.{SendStep, Handed, HeldRun, configuration_of, IsHistory}
use Rattle.gx_session.specs.Standing.{HasStopped, Early}
use Rattle.gx_session.specs.Finishing.{HasShown}
use Rattle.gx_session.proofs.Parts.{IsFront, AwaitedAt, LongAt, with_last_screen}
use Rattle.gx_session.proofs.Asking.{sent-before}
use Rattle.gx_session.proofs.Playing.{cut-at, none-sent, none-asked, input-left, words-left}
use Rattle.gx_session.proofs.Steps.{asked-same}
use Rattle.gx_session.proofs.Texts.{last-grows}

-- the end of a run that stops so
abbrev with-screen : RunEnd → RunEnd
with-screen e = record { stop = e.stop; configuration = with_last_screen e.configuration }

end-is : (start : Configuration) → final_of start ≡ with-screen (stop_of start)
unfolding final_of
end-is start = refl

-- what the machine asks at a stop is the same at one machine
asks-same : (s : Stop) (m m' : Configuration) → m'.machine ≡ m.machine → m'.words ≡ m.words
    → asked_at s m ≡ asked_at s m'
asks-same stop.Ended m m' machine words = refl
asks-same stop.Spent m m' machine words = refl
asks-same stop.Exited m m' machine words = asked-same m m' machine words
asks-same (stop.Faulted f) m m' machine words = asked-same m m' machine words
asks-same stop.InputEnded m m' machine words = asked-same m m' machine words
asks-same stop.Stuck m m' machine words = asked-same m m' machine words
asks-same stop.LineTooLong m m' machine words = asked-same m m' machine words

module _ {K : Type 0} {sending : SendStep K} (start : Configuration) (entry : Handed sending) (h : HeldRun)
    (d : Handed sending) (asking : Option Asking) (why : Stop) where
  module _ (g : HasStopped start entry h asking d why) where
    abbrev at-stop : Configuration
    at-stop = configuration_of g.past g.phase h d

    -- it ends so, at a configuration
    abbrev ended : Configuration → RunEnd
    ended m = record { stop = why; configuration = m }

    end-here : final_of start ≡ with-screen (ended at-stop)
    end-here = end-is start ∙ ap with-screen g.is_end

    -- it is shown
    pub screen-shown : (world : FlatWorld) → world ≡ after h.world (end_text h.world.scene)
        → HasShown start entry (record h { world = world }) asking d why
    screen-shown world said =
        let h' : HeldRun = record h { world = after h.world (end_text h.world.scene) } in
        let i = g.is_past in
        let past : IsHistory start entry g.past h' d = record {
          taken = i.taken;
          answers = i.answers;
          answered = i.answered;
          word = i.word;
          left = i.left;
          fewer = i.fewer;
          reads = i.reads;
        } in
        let m : Configuration = configuration_of g.past g.phase h' d in
        let same : with_last_screen at-stop ≡ m =
        ap (λ (x : FlatWorld). record at-stop { world = x })
        (sent-before (concat g.past.sent) h.world (end_text h.world.scene)) in
        let shown : HasShown start entry h' asking d why = record {
          past = g.past;
          phase = g.phase;
          is_past = past;
          few = g.few;
          reads = g.reads;
          is_end = end-here ∙ ap ended same;
          sound = g.sound;
          asking_is = g.asking_is ∙ asks-same why at-stop m refl refl;
        } in
        subst (λ (x : FlatWorld). HasShown start entry (record h { world = x }) asking d why) (sym said) shown

    stop-is : (final_of start).stop ≡ why
    stop-is = ap (λ (e : RunEnd). e.stop) end-here

    asks-end : asking ≡ asked_at (final_of start).stop (final_of start).configuration
    asks-end =
        g.asking_is ∙ asks-same why at-stop (with_last_screen at-stop) refl refl
        ∙ ap (λ (e : RunEnd). asked_at e.stop e.configuration) (sym end-here)

    shown-by-then : IsFront at-stop.world.text (final_of start).configuration.world.text
    shown-by-then =
        subst (λ (e : RunEnd). IsFront e.configuration.world.text (final_of start).configuration.world.text) g.is_end
        (last-grows start)

    input-then : LeavesInput start.input at-stop.input h.coming entry.source d.source (AwaitedAt start None)
        (LongAt start None) 0
    input-then =
        input-left start entry h d (AwaitedAt start None) (LongAt start None)
        (λ short. g.few (λ e. short (refl, stop-is ∙ e)))
        (λ other. g.reads (λ is. other (refl, subst IsLineStop (sym stop-is) is)))
        g.is_past.reads g.is_past.left

    -- it wants memory
    pub screen-wants : (world : FlatWorld) → EndWants h.world.scene
        → Early start entry (record h { world = world }) asking d halt.NoMemory
    screen-wants world wants =
        let here : at-stop ≡ (stop_of start).configuration = sym (ap (λ (e : RunEnd). e.configuration) g.is_end) in
        cut-at start entry d (record h { world = world }) asking halt.NoMemory None by_memory at-stop
        (map whole_send g.past.sent) ((here, wants), asks-end) refl refl refl refl (h.world.text, refl)
        (none-sent g.past.sent)
        g.is_past.taken shown-by-then (none-asked d.asked) (λ other. input-then)
        (words-left h.word d.words g.past.words g.is_past.word) g.sound
