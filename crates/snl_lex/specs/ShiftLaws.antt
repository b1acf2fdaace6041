-- Where an edit shifts an offset to.
use Rattle.std.proofs.Common.{◌≡◌, ℕ, ◌+◌, ◌-◌, ◌<◌, ◌≤◌, Bool, cond, min, ap, ◌∙◌, arith}
use Rattle.std.proofs.lemmas.Bool.{le-ltb, lt-ltb}
use Rattle.snl_lex.specs.declared.shift.Shift.{Shift}
use Rattle.snl_lex.specs.Shift.{most, shifted_offset}

pub early_offset : (s : Shift) (o : ℕ) → o < s.start → shifted_offset s o ≡ o
early_offset s o h = ap (λ (b : Bool). cond b o (min ((o - s.old_stop) + s.new_stop) most)) (lt-ltb o s.start h)

pub late_offset : (s : Shift) (o : ℕ) → s.start ≤ o → (o - s.old_stop) + s.new_stop ≤ most → shifted_offset s o ≡ (o - s.old_stop) + s.new_stop
late_offset s o h small =
    let least : min ((o - s.old_stop) + s.new_stop) most ≡ (o - s.old_stop) + s.new_stop = omega (arith, small) in
    ap (λ (b : Bool). cond b o (min ((o - s.old_stop) + s.new_stop) most)) (le-ltb o s.start h) ∙ least
