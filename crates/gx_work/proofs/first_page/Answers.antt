use Rattle.gx_work.proofs.Pages.{page_made}
use Rattle.gx_work.proofs.first_page.Goals as goal

pub returns : goal.returns
returns c = page_made _ _ _ _ _ _ _ c.word_bytes-size.ensures.bytes c.word_bytes.ensures.bytes c.splice.ensures
    c.splice-2.ensures c.splice-3.ensures c.splice-4.ensures
