-- The laws of spelling, put together.
use Rattle.gx_asm.proofs.CodesText.{listing}
use Rattle.gx_asm.proofs.TextLaws.{assembled_spells, spelled_assembles}
use Rattle.gx_asm.proofs.Wrapped.{accepts, checked, listed_back}
use Rattle.gx_play.specs.Spelling.{IsSpelling}
use Rattle.gx_play.proofs.Decoding.{decodes}

pub spelling : IsSpelling
spelling = record {
  assembles = λ text code. (assembled_spells text code, spelled_assembles text code);
  lists = λ code text bytes. listing code bytes text;
  wraps = λ code small. (accepts code small, checked code);
  lists_back = listed_back;
  decodes = decodes;
}
