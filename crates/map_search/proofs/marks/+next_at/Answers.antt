use Rattle.std.proofs.Common.{◌≡◌, ℕ, ◌+◌, ◌*◌, ◌<◌, ◌%◌, ◌/◌, arith}
use Rattle.map_search.proofs.Marking.{even_end, no_next, next_left, next_right}
use Rattle.map_search.proofs.marks.+next_at.Goals as goal
use Rattle.map_search.proofs.marks.+next_at.Goals.{else-at-eq0-via-then-at-eq0+else-marks-at-2, else-at-eq0-via-else-at-eq0, else-at-eq0-2-via-then-at-eq0-2+else-at-end-2, else-at-eq0-2-via-else-at-eq0-2}

low : (at end : ℕ) → 0 < at → at < end → end ≡ 2 * (end / 2) → (at + 1 ≡ end → ⊥) → (at % 2 ≡ 0 → at + 2 ≡ end → ⊥) → at / 2 + 1 < end / 2
low at end f b e n m = grind arith

pub next_at-requires : goal.next_at-requires
next_at-requires t c =
    let e = even_end c.args.end c.args.height c.requires.end (let a = c.requires.before in let b = c.requires.first in omega arith) in (
      (let d = c.decreases in let h = e.2 in omega arith),
      (
        c.requires.above,
        (
          e.1,
          (
            omega arith,
            (
              omega arith,
              low c.args.at c.args.end c.requires.first c.requires.before e.0 c.if-at-end.false
                  (λ z. elim c.else-at-eq0-2.branch [ else-at-eq0-2-via-then-at-eq0-2+else-at-end-2 w ↦ w.if-at-end-2.false | else-at-eq0-2-via-else-at-eq0-2 w ↦ absurd (w.if-at-eq0-2.false z) ]),
            ),
          ),
        ),
      ),
    )

pub returns-in-None-clause-none : goal.returns-in-None-clause-none
returns-in-None-clause-none t c =
    no_next c.args.marks.now c.args.at c.args.end c.args.height c.requires.above c.requires.end c.requires.within c.requires.first (let a = c.requires.before in omega arith) c.if-marks-at.false
    (λ e. elim c.else-at-eq0.branch [ else-at-eq0-via-then-at-eq0+else-marks-at-2 w ↦ w.if-marks-at-2.false | else-at-eq0-via-else-at-eq0 w ↦ absurd (w.if-at-eq0.false e) ])
    c.in-None.ensures.none

pub returns-then-marks-above-clause-some : goal.returns-then-marks-above-clause-some
returns-then-marks-above-clause-some t c =
    next_left c.args.marks.now c.args.at c.args.end c.args.height c.requires.above c.requires.end c.requires.within c.requires.first (let a = c.requires.before in omega arith) c.if-marks-at.false
    (λ e. elim c.else-at-eq0.branch [ else-at-eq0-via-then-at-eq0+else-marks-at-2 w ↦ w.if-marks-at-2.false | else-at-eq0-via-else-at-eq0 w ↦ absurd (w.if-at-eq0.false e) ])
    c.in-Some.above c.in-Some.ensures.some c.if-marks-above.true

pub returns-else-marks-above-clause-some : goal.returns-else-marks-above-clause-some
returns-else-marks-above-clause-some t c =
    next_right c.args.marks.now c.args.at c.args.end c.args.height c.requires.above c.requires.end c.requires.within c.requires.first (let a = c.requires.before in omega arith) c.if-marks-at.false
    (λ e. elim c.else-at-eq0.branch [ else-at-eq0-via-then-at-eq0+else-marks-at-2 w ↦ w.if-marks-at-2.false | else-at-eq0-via-else-at-eq0 w ↦ absurd (w.if-at-eq0.false e) ])
    c.in-Some.above c.in-Some.ensures.some c.if-marks-above.false
