use Rattle.std.proofs.Common.{rules, ◌≡◌, ◌++◌, ◌∷◌, [], map, string_bytes, true≢false, sym, ap, ◌∙◌, arith, eqb-true, length}
use Rattle.std.proofs.lemmas.List.{map-append}
use Rattle.rdfc_cli.proofs.Putting.{some_left}
use Rattle.rdfc_c.proofs.Words.{no_words, no_more, pushed_rest, pushed_all}
use Rattle.rdfc_c.proofs.block.words_of.Goals as goal

pub returns-in_default-split_once-clause-only : goal.returns-in_default-split_once-clause-only
returns-in_default-split_once-clause-only c =
    λ words are. no_words words (map string_bytes c.loop-rest.words.items) c.loop-rest.rest.now
    (some_left c.loop-rest.rest.now (λ t. true≢false (sym t ∙ sym c.is_empty.ensures ∙ c.loop-rest-test.true)))
    (c.in_default-split_once.ensures.byte (omega arith) (λ w o f. f)) (c.loop-rest.invariant.only words are)

pub loop-rest-preserved : goal.loop-rest-preserved
loop-rest-preserved c =
    let s = c.in-Some.ensures.byte (omega arith) (λ w o f. f) in
    let read = map string_bytes c.loop-rest.words.items in
    let grown : map string_bytes c.push.new.self.items ≡ read ++ c.in-Some.word.now ∷ [] =
    ap (map string_bytes) c.in_ok-push.ensures.items ∙ map-append string_bytes c.loop-rest.words.items (c.in_ok-from_str.field-0 ∷ [])
    ∙ ap (λ w. read ++ w ∷ []) c.in_ok-from_str.ensures.ok in
    rw grown (record {
      text = search rules;
      utf8 = c.loop-rest.invariant.utf8;
      read = pushed_rest c.args.block.now read c.loop-rest.rest.now c.in-Some.word.now c.in-Some.more.now c.loop-rest.invariant.read s.0 s.1 s.2;
      only = λ all are. pushed_all all read c.loop-rest.rest.now c.in-Some.word.now c.in-Some.more.now (c.loop-rest.invariant.only all are) s.0 s.1 s.2;
    })

pub returns-clause-only : goal.returns-clause-only
returns-clause-only c =
    λ all are. no_more all (map string_bytes c.loop-rest.words.items) c.loop-rest.rest.now
    (eqb-true (length c.loop-rest.rest.now) 0 (sym c.is_empty.ensures ∙ c.loop-rest-test.false)) (c.loop-rest.invariant.only all are)
