-- The tokens from a number on.
use Rattle.std.proofs.Common.{◌≡◌, ℕ, suc, ◌+◌, ◌-◌, ◌<◌, ◌≤◌, true, false, List, [], ◌∷◌, length, get_or, drop, Some, None, Ok, Err, refl, ap, ◌∙◌, add-one, drop-cons, length-drop}
use Rattle.std.proofs.lemmas.List.{drop_all}
use Rattle.snl_lex.specs.declared.kind.Kind.{Kind}
use Rattle.snl_grammar.specs.Tokens.{numbered, ahead, same}
use Rattle.snl_grammar.specs.Steps.{kind_at, expect, accept}

pub ahead_some : (ks : List Kind) (at : ℕ) (d : Kind) → at < length ks → ahead ks at ≡ ((get_or ks at d, at) ∷ ahead ks (at + 1))
unfolding ahead
ahead_some ks at d lt = rw (drop-cons ks at d, add-one) refl

pub ahead_none : (ks : List Kind) (at : ℕ) → length ks ≤ at → ahead ks at ≡ []
unfolding ahead
ahead_none ks at le = ap (numbered at) (drop_all at ks le)

pub kind_some : (ks : List Kind) (at : ℕ) (d : Kind) → at < length ks → kind_at (ahead ks at) ≡ Some (get_or ks at d)
unfolding kind_at
kind_some ks at d lt = ap kind_at (ahead_some ks at d lt)

pub kind_none : (ks : List Kind) (at : ℕ) → length ks ≤ at → kind_at (ahead ks at) ≡ None
unfolding kind_at
kind_none ks at le = ap kind_at (ahead_none ks at le)

pub expect_there : (c : Kind) (ks : List Kind) (at : ℕ) (d : Kind) → at < length ks → same (get_or ks at d) c ≡ true → expect c (ahead ks at) ≡ Ok (at, ahead ks (at + 1))
unfolding expect
expect_there c ks at d lt h = rw (ahead_some ks at d lt, h) refl

pub expect_other : (c : Kind) (ks : List Kind) (at : ℕ) (d : Kind) → at < length ks → same (get_or ks at d) c ≡ false → expect c (ahead ks at) ≡ Err (ahead ks at)
unfolding expect
expect_other c ks at d lt h = rw (ahead_some ks at d lt, h) refl

pub expect_none : (c : Kind) (ks : List Kind) (at : ℕ) → length ks ≤ at → expect c (ahead ks at) ≡ Err (ahead ks at)
unfolding expect
expect_none c ks at le = rw (ahead_none ks at le) refl

pub accept_there : (c : Kind) (ks : List Kind) (at : ℕ) (d : Kind) → at < length ks → same (get_or ks at d) c ≡ true → accept c (ahead ks at) ≡ Ok (true, ahead ks (at + 1))
unfolding accept
accept_there c ks at d lt h = rw (ahead_some ks at d lt, h) refl

pub accept_other : (c : Kind) (ks : List Kind) (at : ℕ) (d : Kind) → at < length ks → same (get_or ks at d) c ≡ false → accept c (ahead ks at) ≡ Ok (false, ahead ks at)
unfolding accept
accept_other c ks at d lt h = rw (ahead_some ks at d lt, h) refl

pub accept_none : (c : Kind) (ks : List Kind) (at : ℕ) → length ks ≤ at → accept c (ahead ks at) ≡ Ok (false, ahead ks at)
unfolding accept
accept_none c ks at le = rw (ahead_none ks at le) refl

pub length-numbered : (n : ℕ) (ks : List Kind) → length (numbered n ks) ≡ length ks
length-numbered n [] = refl
length-numbered n (x ∷ ks) = ap suc (length-numbered (suc n) ks)

pub length-ahead : (ks : List Kind) (at : ℕ) → length (ahead ks at) ≡ length ks - at
unfolding ahead
length-ahead ks at = length-numbered at (drop at ks) ∙ length-drop at ks
