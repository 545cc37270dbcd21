use Rattle.std.proofs.Common.{List, map, string_bytes, length}
use Rattle.std.specs.Prelude.{IsUtf8}
use denote.Text.{Utf8}
use denote.Shadow.{shadow}
use Rattle.rdf_terms.specs.Lists.{Text}
use Rattle.rdfc_c.specs.Blocks.{AreWords}
use Rattle.rdfc_c.proofs.Words.{HasRest, IsRestOf}
use Rattle.rdfc_c.proofs.block.words_of.Given as goal

abbrev pub invariant-loop-rest : goal.invariant-loop-rest
invariant-loop-rest l = record {
  text : shadow (Utf8 l.rest);
  utf8 : IsUtf8 l.fn.block;
  read : HasRest l.fn.block (map string_bytes l.words.items) l.rest;
  only : (all : List Text) → AreWords l.fn.block all → IsRestOf all (map string_bytes l.words.items) l.rest;
}

abbrev pub decreases-loop-rest : goal.decreases-loop-rest
decreases-loop-rest l = length l.rest
