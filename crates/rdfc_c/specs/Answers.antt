-- What a caller is told of a run over bytes of its own.
use Rattle.std.specs.Prelude.{◌≡◌, ℕ, ◌+◌, ◌<◌, ◌⊎◌, min, List, [], ◌++◌, length, take, drop, Option, Some, slice_get}
use Rattle.rdf_terms.specs.Lists.{Text}
use Rattle.lent_memory.specs.LentFiles.{LentFiles, told_of, faults_of}
use Rattle.lent_memory.specs.declared.sink.GatheringSink.{GatheringSink}
use Rattle.rdfc_cli.specs.Answers.{FileSeen, Answers}
use Rattle.rdfc_cli.specs.Notes.{IsNoted}
use Rattle.rdfc_cli.specs.Options.{settings_in, syntax_in}
use Rattle.rdfc_cli.specs.Statuses.{code_of}
use Rattle.rdfc_cli.specs.Words.{Command, Given, Syntax, file_word}
use Rattle.rdfc_cli.specs.declared.status.Cause.{Cause}
use Rattle.rdfc_cli.specs.declared.status.Cause.TheVariants.{TooLong, NotUtf8, BadLine, RelativeIri, BadTrig, UnknownPrefix, NoBase, TooManyQuads, NotOneGraph}
use Rattle.rdfc_cli.specs.declared.status.Status.{Status}
use Rattle.rdfc_cli.specs.declared.status.Status.TheVariants.{Done, Unsettled, Refused, ReadFault, WorkLimit, SearchLimit}
use Rattle.rdfc_c.specs.declared.answer.Answer.{Answer}
use Rattle.rdfc_c.specs.declared.answer.TheConstants.{NO_ROOM, NOTE_LEN}
use Rattle.rdfc_c.specs.declared.delivery.Delivery.{Delivery}

-- ---- the files

abbrev pub files_of : Text → Text → LentFiles
files_of first second = record { first = first; second = second }

-- The file of this name, as a run sees it, where so many calls have a name that no file has. No call on a file that is
-- lent fails.
abbrev pub lent_file : Syntax → LentFiles → ℕ → Text → FileSeen
lent_file syntax files failed name = record {
  syntax = syntax;
  told = told_of files name;
  faults = faults_of 0 name;
  faults_now = faults_of failed name;
}

-- ---- what is written

-- the whole text was written, and nothing behind it
pub record IsWritten (code : ℕ) (text before after : Text) (delivery : Delivery) : Type 0 where
  pub status : delivery.status ≡ code
  pub written : delivery.written ≡ length text
  pub needed : delivery.needed ≡ length text
  pub after_is : after ≡ text ++ drop (length text) before

-- the text has more bytes than there is room for, and nothing was written
pub record HasNoRoom (text before after : Text) (delivery : Delivery) : Type 0 where
  pub longer : length before < length text
  pub status : delivery.status ≡ NO_ROOM
  pub written : delivery.written ≡ 0
  pub needed : delivery.needed ≡ length text
  pub untouched : after ≡ before

-- there is no text to be written, and nothing was
pub record IsUnwritten (code : ℕ) (before after : Text) (delivery : Delivery) : Type 0 where
  pub status : delivery.status ≡ code
  pub written : delivery.written ≡ 0
  pub needed : delivery.needed ≡ 0
  pub untouched : after ≡ before

abbrev pub IsFitted : ℕ → Text → Text → Text → Delivery → Type 0
IsFitted code text before after delivery =
    IsWritten code text before after delivery ⊎ HasNoRoom text before after delivery

-- what a run that ended so and put this text leaves in memory of the caller
abbrev pub IsDelivered : Status → Text → Text → Text → Delivery → Type 0
IsDelivered Done text before after delivery = IsFitted (code_of Done) text before after delivery
IsDelivered (Unsettled tie) text before after delivery = IsFitted (code_of (Unsettled tie)) text before after delivery
IsDelivered status text before after delivery = IsUnwritten (code_of status) before after delivery

-- ---- the parts of a status

-- causes, counted from 1
abbrev pub cause_number : Cause → ℕ
cause_number TooLong = 1
cause_number (NotUtf8 line) = 2
cause_number (BadLine line) = 3
cause_number (RelativeIri line) = 4
cause_number (BadTrig line) = 5
cause_number (UnknownPrefix line) = 6
cause_number (NoBase line) = 7
cause_number TooManyQuads = 8
cause_number NotOneGraph = 9

abbrev pub cause_line : Cause → ℕ
cause_line (NotUtf8 line) = line
cause_line (BadLine line) = line
cause_line (RelativeIri line) = line
cause_line (BadTrig line) = line
cause_line (UnknownPrefix line) = line
cause_line (NoBase line) = line
cause_line cause = 0

-- the number of the cause of a refusal, and 0 of each other status
abbrev pub cause_of : Status → ℕ
cause_of (Refused refusal) = cause_number refusal.cause
cause_of status = 0

-- the line that a file is refused for, and 0 where there is none
abbrev pub line_of : Status → ℕ
line_of (Refused refusal) = cause_line refusal.cause
line_of status = 0

-- the place of the file that the status is about, counted from 1, and 0 where it is about none
abbrev pub file_of : Status → ℕ
file_of (Refused refusal) = refusal.file + 1
file_of (ReadFault place) = place + 1
file_of (WorkLimit place limit) = place + 1
file_of (SearchLimit limit image) = 1
file_of status = 0

-- ---- the note

-- the answer has the front of the note, as much as there is room for, with a byte 0 behind it
pub record HasNote (note : Text) (answer : Answer) : Type 0 where
  pub len : answer.note_len ≡ min (length note) NOTE_LEN
  pub front : take answer.note_len answer.note ≡ take answer.note_len note
  pub ended : slice_get answer.note answer.note_len ≡ Some 0

-- ---- the answer

abbrev pub taken_of : GatheringSink → Option Text
taken_of sink = Some sink.bytes.items

abbrev pub refused_of : GatheringSink → ℕ
refused_of sink = sink.faults

abbrev pub delivery_of : Answer → Delivery
delivery_of answer = record { status = answer.status; written = answer.written; needed = answer.needed }

-- The command was run on the lent files. Its output was gathered in a sink that fails only where memory is refused, and
-- what that sink has taken is what was delivered.
pub record IsAnswered (files : LentFiles) (command : Command) (options : List Given) (before after : Text)
    (answer : Answer) : Type 0 where
  pub status : Status
  pub failed : ℕ
  pub text : Text
  pub old : GatheringSink
  pub new : GatheringSink
  pub empty : taken_of old ≡ Some []
  pub gathered : taken_of new ≡ Some text
  pub answers : Answers taken_of refused_of (lent_file (syntax_in options) files failed) command
      (settings_in options) old new status
  pub delivered : IsDelivered status text before after (delivery_of answer)
  pub cause_is : answer.cause ≡ cause_of status
  pub file_is : answer.file ≡ file_of status
  pub line_is : answer.line ≡ line_of status
  pub note : Text
  pub old_notes : GatheringSink
  pub new_notes : GatheringSink
  pub no_note : taken_of old_notes ≡ Some []
  pub noted : taken_of new_notes ≡ Some note
  pub is_noted : IsNoted taken_of refused_of old_notes new_notes (file_word command) status
  pub has_note : HasNote note answer

-- nothing was written, and no file is told of
pub record IsNotDone (before after : Text) (answer : Answer) : Type 0 where
  pub untouched : after ≡ before
  pub written : answer.written ≡ 0
  pub needed : answer.needed ≡ 0
