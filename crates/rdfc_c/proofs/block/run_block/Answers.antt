use Rattle.std.proofs.Common.{map, string_bytes, inl, subst, MatchOption}
use Rattle.rdfc_cli.specs.Words.{IsCommand}
use Rattle.rdfc_c.specs.Blocks.{AreWords}
use Rattle.rdfc_c.proofs.block.run_block.Goals as goal

pub returns-in_default-clause-note : goal.returns-in_default-clause-note
returns-in_default-clause-note g c = λ command options spells. c.out_of_memory.ensures.note command

pub returns-in-Ok-Some-clause-nothing_spelled : goal.returns-in-Ok-Some-clause-nothing_spelled
returns-in-Ok-Some-clause-nothing_spelled g c =
    λ nothing. inl (c.run.ensures.usage.1 (λ command options is. nothing command options (record {
      words = map string_bytes c.in-Ok-Some.words.items;
      are_words = subst (λ found. MatchOption found (Unit {0}) (λ words. AreWords c.args.block.now (map string_bytes words.items)))
          c.in-Ok-Some.field-0-is c.in-Ok-Some.ensures.some;
      is_command = subst (λ words. IsCommand (map string_bytes words) command options) c.deref.ensures.value is;
    })))

pub returns-in-Err-clause-note : goal.returns-in-Err-clause-note
returns-in-Err-clause-note g c = λ command options spells. c.out_of_memory-in-Err.ensures.note command
