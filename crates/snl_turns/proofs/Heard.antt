-- Which messages some bytes are.
use Rattle.std.proofs.Common.{◌≡◌, ◌≤◌, ℕ, List, [], ◌∷◌, ◌++◌, length, map, refl, sym, ap, ◌∙◌, subst}
use Rattle.std.specs.Prelude.{All, flat_map}
use Rattle.std.proofs.lemmas.List.Elements.{All-head, All-tail}
use Rattle.snl_turns.specs.Turns.{Turn, HeaderAlone, Body}
use Rattle.snl_frame.specs.Frame.{Message, at_front, longest_body}
use Rattle.snl_frame.specs.Framed.{framed}
use Rattle.snl_turns.specs.Begins.{Begins, HoldsNone, front_with}

-- ---- bodies in their frames

-- the law of snl_frame
abbrev pub ReadBack : Type 0
ReadBack = (body more : List ℕ) → length body ≤ longest_body → at_front (framed body ++ more) ≡ Message body more

abbrev Fits : List ℕ → Type 0
Fits body = length body ≤ longest_body

pub framed-begins : ReadBack → (bodies : List (List ℕ)) → All Fits bodies → Begins (flat_map framed bodies) (map (λ body. Body body) bodies) []
framed-begins read [] few = refl
framed-begins read (body ∷ bodies) few = (flat_map framed bodies, read body (flat_map framed bodies) (All-head Fits body bodies few), framed-begins read bodies (All-tail Fits body bodies few))

-- ---- messages are told once

same_turn : (t u : Turn) (left other : List ℕ) → front_with t left ≡ front_with u other → t ≡ u
same_turn HeaderAlone HeaderAlone left other e = refl
same_turn HeaderAlone (Body b) left other e = cc
same_turn (Body a) HeaderAlone left other e = cc
same_turn (Body a) (Body b) left other e = cc

same_left : (t u : Turn) (left other : List ℕ) → front_with t left ≡ front_with u other → left ≡ other
same_left HeaderAlone HeaderAlone left other e = cc
same_left HeaderAlone (Body b) left other e = cc
same_left (Body a) HeaderAlone left other e = cc
same_left (Body a) (Body b) left other e = cc

pub turns_once : (bytes : List ℕ) (turns others : List Turn) (rest left : List ℕ) → Begins bytes turns rest → HoldsNone rest → Begins bytes others left → HoldsNone left → turns ≡ others
turns_once bytes [] [] rest left b n c m = refl
turns_once bytes [] (u ∷ us) rest left b n c m = absurd (n u c.0 (ap at_front b ∙ c.1))
turns_once bytes (t ∷ ts) [] rest left b n c m = absurd (m t b.0 (ap at_front c ∙ b.1))
turns_once bytes (t ∷ ts) (u ∷ us) rest left b n c m =
    let same = sym b.1 ∙ c.1 in
    let after : b.0 ≡ c.0 = same_left t u b.0 c.0 same in
    let more : ts ≡ us = turns_once b.0 ts us rest left b.2 n (subst (λ (l : List ℕ). Begins l us left) (sym after) c.2) m in
    rw (same_turn t u b.0 c.0 same, more) refl

pub rest_once : (bytes : List ℕ) (turns others : List Turn) (rest left : List ℕ) → Begins bytes turns rest → HoldsNone rest → Begins bytes others left → HoldsNone left → rest ≡ left
rest_once bytes [] [] rest left b n c m = b ∙ sym c
rest_once bytes [] (u ∷ us) rest left b n c m = absurd (n u c.0 (ap at_front b ∙ c.1))
rest_once bytes (t ∷ ts) [] rest left b n c m = absurd (m t b.0 (ap at_front c ∙ b.1))
rest_once bytes (t ∷ ts) (u ∷ us) rest left b n c m =
    let after : b.0 ≡ c.0 = same_left t u b.0 c.0 (sym b.1 ∙ c.1) in
    rest_once b.0 ts us rest left b.2 n (subst (λ (l : List ℕ). Begins l us left) (sym after) c.2) m
