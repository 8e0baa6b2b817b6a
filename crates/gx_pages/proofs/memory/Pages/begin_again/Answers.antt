use Rattle.std.proofs.Common.{ℕ, List, ◌-◌, ◌∙◌, ap, length, replicate}
use Rattle.gx_words.specs.Numbers.{spliced}
use Rattle.gx_pages.specs.Memory.{put_back_of}
use Rattle.gx_pages.proofs.Splice.{spliced_all}
use Rattle.gx_pages.proofs.memory.Pages.begin_again.Goals as goal

pub returns-clause-value : goal.returns-clause-value
returns-clause-value g c =
    let size = c.args.size in
    let bytes = c.args.bytes.now in
    c.in_ok-keep_present.ensures.value
    ∙ ap (λ (m : List ℕ). put_back_of c.args.self.now m c.args.skip.0 c.args.skip.1)
    (c.in_ok-clear.ensures.ok
    ∙ ap (λ (m : List ℕ). spliced m (length bytes) (replicate (size - length bytes) 0)) c.in_ok-put.ensures.ok
    ∙ spliced_all c.resize.new.self bytes size c.in_ok-resize.ensures.size c.requires.room)
