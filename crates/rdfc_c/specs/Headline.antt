-- What a call with `canon` tells of a file that is lent: the headline, over bytes of the caller.
use Rattle.std.specs.Prelude.{◌≡◌, List, [], take, Some}
use Rattle.rdf_terms.specs.Vocabulary.{Text}
use Rattle.lent_memory.specs.LentFiles.{LentFiles, told_of}
use Rattle.ndegree_hash.specs.declared.tie.Tie.{Tie}
use Rattle.rdfc_cli.specs.Headline.{IsOneOutput, HasUnsettledTie}
use Rattle.rdfc_cli.specs.Options.{settings_in, syntax_in}
use Rattle.rdfc_cli.specs.Words.{Given}
use Rattle.rdfc_cli.specs.Words.Command.{on_file}
use Rattle.rdfc_cli.specs.declared.words.Task.TheVariants.{Canon}
use Rattle.rdfc_c.specs.Answers.{IsAnswered}
use Rattle.rdfc_c.specs.declared.answer.Answer.{Answer}

-- a call with `canon` on the lent file of this word, which has these bytes, was answered so
pub record IsCanonCall (files : LentFiles) (word bytes : Text) (options : List Given) (before after : Text)
    (answer : Answer) : Type 0 where
  pub told : told_of files word ≡ Some bytes
  pub answered : IsAnswered files (on_file Canon word) options before after answer

-- With status 0 the bytes that were written are the one output of the file, and nothing else. With status 3 they are an
-- output, and there is a tie that is not joined.
pub record LentHeadline : Type 0 where
  pub done : (files : LentFiles) (word bytes : Text) (options : List Given) (before after : Text) (answer : Answer)
      → IsCanonCall files word bytes options before after answer → answer.status ≡ 0
      → IsOneOutput (Some []) (Some (take answer.written after)) (syntax_in options) bytes (settings_in options)
  pub unsettled : (files : LentFiles) (word bytes : Text) (options : List Given) (before after : Text)
      (answer : Answer) → IsCanonCall files word bytes options before after answer → answer.status ≡ 3
      → (tie : Tie)
      × HasUnsettledTie (Some []) (Some (take answer.written after)) (syntax_in options) bytes (settings_in options) tie
