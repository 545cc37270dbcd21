use Rattle.std.proofs.Common.{sym, ap, subst, map, string_bytes, true≢false, ◌∙◌}
use Rattle.rdfc_cli.specs.Words.{IsCommand, IsNoCommand}
use Rattle.rdfc_cli.specs.Options.{chosen, chosen_syntax}
use Rattle.rdfc_cli.specs.Requests.{IsSpelled, command_of}
use Rattle.rdfc_cli.proofs.OptionWords.{if_none}
use Rattle.rdfc_cli.proofs.CommandWords.{no_command-options, no_command-operands, no_command-taken, no_command-base, command-of_parts}
use Rattle.rdfc_cli.proofs.words.read_words.Goals as goal

pub returns-in_err-command-clause-none : goal.returns-in_err-command-clause-none
returns-in_err-command-clause-none c =
    if_none _ (subst IsNoCommand (sym (ap (map string_bytes) c.in_ok-word.ensures.cases.0))
    (no_command-operands _ _ _ (chosen c.in_ok-options.field-0.options) c.in_ok-options.ensures.some
    (λ command s. c.in_err-command.ensures.none command (subst (λ w. IsSpelled w (map string_bytes c.in_ok-options.field-0.rest.now) command) (sym c.as_str.ensures.value) s))))

pub returns-then-takes-clause-some : goal.returns-then-takes-clause-some
returns-then-takes-clause-some c =
    let command = command_of c.in_ok-command.command in
    let read = c.in_ok-options.ensures.some in
    let spelled = subst (λ w. IsSpelled w (map string_bytes c.in_ok-options.field-0.rest.now) command) c.as_str.ensures.value c.in_ok-command.ensures.some in
    record {
      options = read.given;
      is_command =
          subst (λ words. IsCommand words command read.given) (sym (ap (map string_bytes) c.in_ok-word.ensures.cases.0))
          (command-of_parts _ _ _ (chosen c.in_ok-options.field-0.options) command read spelled c.in_ok-syntax.ensures.fits (c.takes.ensures.0 c.if-takes.true));
      settings_are = c.settings.ensures read.given read.chosen_is;
      syntax_is = c.in_ok-syntax.ensures.some ∙ ap chosen_syntax read.chosen_is;
    }

pub returns-else-takes-clause-none : goal.returns-else-takes-clause-none
returns-else-takes-clause-none c =
    let command = command_of c.in_ok-command.command in
    let spelled = subst (λ w. IsSpelled w (map string_bytes c.in_ok-options.field-0.rest.now) command) c.as_str.ensures.value c.in_ok-command.ensures.some in
    subst IsNoCommand (sym (ap (map string_bytes) c.in_ok-word.ensures.cases.0))
    (no_command-taken _ _ _ (chosen c.in_ok-options.field-0.options) command c.in_ok-options.ensures.some spelled (λ taken. true≢false (sym (c.takes.ensures.1 taken) ∙ c.if-takes.false)))

pub returns-in_err-options-clause-none : goal.returns-in_err-options-clause-none
returns-in_err-options-clause-none c =
    if_none _ (subst IsNoCommand (sym (ap (map string_bytes) c.in_ok-word.ensures.cases.0)) (no_command-options _ _ c.in_err-options.ensures.none))

pub returns-in_err-syntax-clause-none : goal.returns-in_err-syntax-clause-none
returns-in_err-syntax-clause-none c =
    let command = command_of c.in_ok-command.command in
    let spelled = subst (λ w. IsSpelled w (map string_bytes c.in_ok-options.field-0.rest.now) command) c.as_str.ensures.value c.in_ok-command.ensures.some in
    if_none _ (subst IsNoCommand (sym (ap (map string_bytes) c.in_ok-word.ensures.cases.0))
    (no_command-base _ _ _ (chosen c.in_ok-options.field-0.options) command c.in_ok-options.ensures.some spelled c.in_err-syntax.ensures.none))
