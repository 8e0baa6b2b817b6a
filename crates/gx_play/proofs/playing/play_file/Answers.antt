use Rattle.std.proofs.Common.{◌≡◌, [], ◌∷◌, ◌++◌, Result, Ok, Err, refl, ap, subst, sym, ◌∙◌}
use Rattle.gx_words.specs.Constants.{ceiling}
use Rattle.gx_outside.specs.Outside.{FlatShelf}
use Rattle.gx_outside.specs.Shelves.{load_file, Trace}
use Rattle.gx_story.specs.Stories.{FlatStory}
use Rattle.gx_session.specs.Devices.{Devices, devices}
use Rattle.gx_session.proofs.Calling.{called-none, called-as, called-on, both-as}
use Rattle.gx_play.specs.declared.command.Job.{Job}
use Rattle.gx_play.specs.declared.command.Job.TheVariants.{Play}
use Rattle.gx_play.specs.declared.loading.Refusal.{Refusal}
use Rattle.gx_play.specs.declared.loading.Refusal.TheVariants as refusal
use Rattle.gx_play.specs.Commands.{Command}
use Rattle.gx_play.proofs.Outcomes.{story_in_file, outcome_of_story}
use Rattle.gx_play.specs.FirstLoad.{LoadsFirst}
use Rattle.gx_play.specs.Statuses.{PlaysStory}
use Rattle.gx_play.specs.Reading.{command_seen}
use Rattle.gx_play.proofs.Dones.{refused-done, parts-for}
use Rattle.gx_play.proofs.Loads.{loadable}
use Rattle.gx_play.proofs.Plays.{comes-out, counts-after, first-story, plays-story, wants-story}
use Rattle.gx_play.proofs.playing.play_file.Goals as goal

pub returns-in-Err : goal.returns-in-Err
returns-in-Err g c =
    called-none g.S.Source.called c.args.input.now _
    (called-none g.K.Sink.called c.args.output.now _
    (called-as g.F.Shelf.called c.args.shelf.now c.load_story.new.shelf _ _ c.in-Err.ensures.value
    (λ asked l.
    let entry : Devices = devices (g.S.Source.seen c.args.input.now) (g.K.Sink.seen c.args.output.now)
    (g.F.Shelf.seen c.args.shelf.now) (g.R.Rng.stream c.args.dice.now) [] [] [] in
    let command : Command = command_seen c.args.command in
    let job : Job = c.args.command.job in
    let plays = c.requires.plays in
    refused-done c.without_story.result ceiling story_in_file command entry entry.shelf
    (g.F.Shelf.seen c.load_story.new.shelf) asked job c.in-Err.refusal l c.in-Err.ensures.count
    c.in-Err.ensures.fault c.without_story.ensures
    (λ fault bad. plays-story job command l.file entry plays ∙ ap (outcome_of_story job command entry) bad)
    (wants-story job l.file plays)
    (first-story job command l.file l.answer [] plays l.handed))))

pub returns-in-Ok : goal.returns-in-Ok
returns-in-Ok g c =
    let p = c.play_story.ensures in
    both-as g.S.Source.called g.K.Sink.called c.args.input.now c.play_story.new.input c.args.output.now
    c.play_story.new.output _ _ p.plays
    (λ reads sends later.
    called-on g.F.Shelf.called c.args.shelf.now c.load_story.new.shelf c.play_story.new.shelf _ _ _
    c.in-Ok.ensures.value later
    (λ one two l played.
    let entry : Devices = devices (g.S.Source.seen c.args.input.now) (g.K.Sink.seen c.args.output.now)
    (g.F.Shelf.seen c.args.shelf.now) (g.R.Rng.stream c.args.dice.now) [] [] [] in
    let exit : Devices = devices (g.S.Source.seen c.play_story.new.input) (g.K.Sink.seen c.play_story.new.output)
    (g.F.Shelf.seen c.play_story.new.shelf) (g.R.Rng.stream c.play_story.new.dice) reads sends (one ++ two) in
    let shelf : FlatShelf = g.F.Shelf.seen c.load_story.new.shelf in
    let command : Command = command_seen c.args.command in
    let job : Job = c.args.command.job in
    let plays = c.requires.plays in
    let asked : one ++ two ≡ (load_file command.story ceiling, l.answer) ∷ two =
    ap (λ (t : Trace). t ++ two) l.asked_are in
    let comes = comes-out c.play_story.result entry exit ceiling command.story l.answer shelf two refl refl asked
    l.does job plays command l.file c.in-Ok.story l.gives played in
    record {
      file = l.file;
      file_is = l.file_is;
      loads = subst (LoadsFirst job command l.file) (sym asked)
          (first-story job command l.file l.answer two plays l.handed);
      plays = comes;
      memory = λ _. wants-story job l.file plays (loadable l.file c.in-Ok.story l.gives);
      began = p.began;
      counts = counts-after entry exit shelf _ (let r : Result FlatStory Refusal = Ok c.in-Ok.story in
          r ≡ Err refusal.Shelf) (record { shelf = p.counts.shelf; source = p.counts.source; sink = p.counts.sink })
          c.in-Ok.ensures.count (λ e. absurd cc);
      parts = parts-for c.play_story.result (PlaysStory job) (job ≡ Play) (job ≡ Play) (λ is. is) p.parts;
    }))
