use Rattle.std.proofs.Common.{sym, ap, ◌∙◌, true≢false}
use Rattle.std.specs.List.{prefix_len}
use Rattle.char_tables.specs.Classes.{may_stand_in_iriref}
use Rattle.rdfc_cli.proofs.BaseWords.{base-of_len, len-of_base}
use Rattle.rdfc_cli.proofs.options.base_of.Goals as goal
use Rattle.rdfc_cli.proofs.options.base_of.Goals.{else-has_scheme-via-then-has_scheme+else-iri_len-word, else-has_scheme-via-else-has_scheme}

pub returns-then-iri_len-word-clause-good : goal.returns-then-iri_len-word-clause-good
returns-then-iri_len-word-clause-good c =
    base-of_len c.args.word.now (c.has_scheme.ensures.0 c.if-has_scheme.true) (ap (prefix_len may_stand_in_iriref) (sym c.as_bytes.ensures.value) ∙ sym c.iri_len.ensures.is ∙ c.if-iri_len-word.true)

pub returns-else-has_scheme-clause-none : goal.returns-else-has_scheme-clause-none
returns-else-has_scheme-clause-none c base =
    elim c.else-has_scheme.branch [
      | else-has_scheme-via-then-has_scheme+else-iri_len-word w ↦ w.if-iri_len-word.false
          (w.iri_len.ensures.is ∙ ap (prefix_len may_stand_in_iriref) w.as_bytes.ensures.value ∙ len-of_base c.args.word.now base)
      | else-has_scheme-via-else-has_scheme w ↦ true≢false (sym (c.has_scheme.ensures.1 base.has_scheme) ∙ w.if-has_scheme.false)
    ]
