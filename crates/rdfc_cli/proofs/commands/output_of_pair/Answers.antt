use Rattle.std.proofs.Common.{IfSome, refl, subst}
use Rattle.rdfc_cli.specs.Answers.{Accepts, seen}
use Rattle.rdfc_cli.specs.Requests.{syntax_of}
use Rattle.rdfc_cli.proofs.Answering.{if_ok, if_err, if_accepted-form, fault-seen_before, written-pair, stops-pair, stops-second_fault}
use Rattle.rdfc_cli.proofs.commands.output_of_pair.Goals as goal

pub returns-in-Ok-form_of_file-clause-output : goal.returns-in-Ok-form_of_file-clause-output
returns-in-Ok-form_of_file-clause-output g c =
    let one = c.in-Ok.ensures.form in
    let two = c.in-Ok-form_of_file.ensures.form in
    if_ok c.output_of_forms.result (λ output o.
    written-pair (seen (syntax_of c.args.syntax) g.S.Shelf.told g.S.Shelf.faults c.args.shelf.now c.form_of_file-2.new.shelf) c.args.first.now c.args.second.now c.args.settings one.0 two.0 one.1
    (subst (λ told. IfSome told (λ bytes. Accepts (syntax_of c.args.syntax) bytes two.0)) (c.form_of_file.ensures.told c.args.second.now) two.1)
    output (o one.0 two.0 one.2 two.2)) c.output_of_forms.ensures.output

pub returns-in-Ok-form_of_file-clause-stops : goal.returns-in-Ok-form_of_file-clause-stops
returns-in-Ok-form_of_file-clause-stops g c =
    let one = c.in-Ok.ensures.form in
    let two = c.in-Ok-form_of_file.ensures.form in
    if_err c.output_of_forms.result (λ status s.
    stops-pair (seen (syntax_of c.args.syntax) g.S.Shelf.told g.S.Shelf.faults c.args.shelf.now c.form_of_file-2.new.shelf) c.args.first.now c.args.second.now c.args.settings one.0 two.0 one.1
    (subst (λ told. IfSome told (λ bytes. Accepts (syntax_of c.args.syntax) bytes two.0)) (c.form_of_file.ensures.told c.args.second.now) two.1)
    status (s one.0 two.0 one.2 two.2)) c.output_of_forms.ensures.stops

pub returns-in-Err-form_of_file-clause-stops : goal.returns-in-Err-form_of_file-clause-stops
returns-in-Err-form_of_file-clause-stops g c =
    let one = c.in-Ok.ensures.form in
    let file = seen (syntax_of c.args.syntax) g.S.Shelf.told g.S.Shelf.faults c.args.shelf.now c.form_of_file-2.new.shelf in
    let later = seen (syntax_of c.args.syntax) g.S.Shelf.told g.S.Shelf.faults c.form_of_file.new.shelf c.form_of_file-2.new.shelf in
    let second = c.args.second.now in
    stops-second_fault file c.args.first.now second c.args.settings c.in-Err-form_of_file.fault c.status-in-Err-form_of_file.result (if_accepted-form (file c.args.first.now) one.0 one.1)
    (fault-seen_before (file second) (later second) c.in-Err-form_of_file.fault refl (c.form_of_file.ensures.told second) (c.form_of_file.ensures.never_fell second)
    refl c.in-Err-form_of_file.ensures.fault) c.status-in-Err-form_of_file.ensures
