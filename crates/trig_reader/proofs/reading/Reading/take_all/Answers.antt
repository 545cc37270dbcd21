use Rattle.std.proofs.Common.{◌≢◌, ◌∷◌, ◌++◌, [], false, refl, ap, sym, ◌∙◌, arith}
use Rattle.std.proofs.lemmas.Bool.{false≢true}
use Rattle.std.proofs.lemmas.List.Elements.{All-nil, All-push}
use Rattle.std.proofs.lemmas.Result.{err_from_is_err_and}
use Rattle.std.proofs.lemmas.Str.{IsCharBoundary-start}
use Rattle.rdf_terms.specs.Lists.{Text}
use Rattle.trig_lexer.specs.declared.kind.Kind.TheVariants.{End}
use Rattle.trig_lexer.specs.declared.token.Token.{Token}
use Rattle.trig_reader.specs.Lines.{line_at}
use Rattle.trig_reader.proofs.TokenLists.{place_behind-push, is_behind_string-push}
use Rattle.trig_reader.proofs.Taking.{cut_out, bad_place, taken_all, next_at, none_at}
use Rattle.trig_reader.proofs.reading.Reading.take_all.Goals as goal

pub loop-token-init : goal.loop-token-init
loop-token-init c = record {
  tokens = [];
  taken = c.requires;
  no_end = All-nil (λ (t : Token). t.kind ≢ End);
  place_is = refl;
  after_is = refl;
  boundary = IsCharBoundary-start c.args.text.now c.utf8.text;
}

pub returns-in_default-clause-err : goal.returns-in_default-clause-err
returns-in_default-clause-err c base =
    let before = c.loop-token.invariant in
    bad_place c.args.text.now base c.args.self.now before.tokens c.loop-token.self c.loop-token.place c.token_start.result c.line_at-line.result c.utf8.text before.taken before.no_end before.place_is
    (none_at c.args.text.now before.tokens c.loop-token.place c.loop-token.after_string before.place_is before.after_is c.in_default.ensures.none) c.token_start.ensures.starts
    (c.line_at-line.ensures ∙ ap (λ (t : Text). line_at t c.token_start.result) c.as_bytes.ensures.value)

pub take-requires : goal.take-requires
take-requires c =
    let before = c.loop-token.invariant in
    record {
      first = c.args.self.now;
      tokens = before.tokens;
      taken = before.taken;
      no_end = before.no_end;
      next = next_at c.args.text.now before.tokens c.loop-token.place c.loop-token.after_string c.in-Some.token before.place_is before.after_is c.in-Some.ensures.found;
      cut = cut_out c.loop-token.after_string c.args.text.now c.loop-token.place c.in-Some.token c.in-Some.ensures.found c.in-Some.ensures.starts c.in-Some.ensures.ends;
    }

pub returns-in_err-take-clause-err : goal.returns-in_err-take-clause-err
returns-in_err-take-clause-err c =
    let p = err_from_is_err_and c.from_residual.result c.from_residual.ensures.1 in
    rw (p.1, p.2) (λ base. c.in_err-take.ensures.err base)

pub returns-then-is_end-clause-taken : goal.returns-then-is_end-clause-taken
returns-then-is_end-clause-taken c =
    let before = c.loop-token.invariant in
    let next = next_at c.args.text.now before.tokens c.loop-token.place c.loop-token.after_string c.in-Some.token before.place_is before.after_is c.in-Some.ensures.found in
    taken_all c.args.text.now c.args.self.now before.tokens c.in-Some.token c.take.new.self (c.in_ok-take.ensures.taken c.args.self.now before.tokens before.taken next) before.no_end
    (c.is_end.ensures.0 c.if-is_end.true)

pub loop-token-preserved : goal.loop-token-preserved
loop-token-preserved c =
    let before = c.loop-token.invariant in
    let next = next_at c.args.text.now before.tokens c.loop-token.place c.loop-token.after_string c.in-Some.token before.place_is before.after_is c.in-Some.ensures.found in
    record {
      tokens = before.tokens ++ c.in-Some.token ∷ [];
      taken = c.in_ok-take.ensures.taken c.args.self.now before.tokens before.taken next;
      no_end = All-push (λ (t : Token). t.kind ≢ End) before.tokens c.in-Some.token before.no_end (λ e. false≢true (sym c.if-is_end.false ∙ c.is_end.ensures.1 e));
      place_is = sym (place_behind-push 0 before.tokens c.in-Some.token);
      after_is = c.is_string-after_string.ensures ∙ sym (is_behind_string-push false before.tokens c.in-Some.token);
      boundary = c.in-Some.ensures.ends;
    }

pub loop-token-smaller : goal.loop-token-smaller
loop-token-smaller c =
    let less = c.in-Some.ensures.goes_on (λ e. false≢true (sym c.if-is_end.false ∙ c.is_end.ensures.1 e)) in
    let within = c.in-Some.ensures.found.within in
    omega (arith, less, within)
