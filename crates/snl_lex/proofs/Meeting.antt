-- The pieces that are kept at the back begin where both texts have a boundary, and are moved with
-- their bytes.
use Rattle.std.proofs.Common.{get_or, ◌≡◌, ℕ, zero, suc, ◌+◌, ◌-◌, ◌<◌, ◌≤◌, ◌⊎◌, inl, inr, List, [], ◌∷◌, ◌++◌, length, drop, take, map, true, false, cond, nat_lt, nat_le, refl, sym, ap, ◌∙◌, subst, arith, length-drop}
use Rattle.std.proofs.lemmas.List.{take-take, drop-drop, drop-take, take-append-drop, length-map, drop_more}
use Rattle.snl_cut.specs.Cut.{Walks, IsEdit, IsRecut, fresh, moved, last_end, ends_below}
use Rattle.snl_lex.specs.declared.piece.Class.{Class}
use Rattle.snl_lex.specs.declared.piece.Piece.{Piece}
use Rattle.snl_lex.specs.Local.{first_same}
use Rattle.snl_lex.specs.Pieces.{first_piece, piece_length, piece_at, piece_end, pieces_along, pieces_of, moved_piece}
use Rattle.snl_lex.proofs.Members.{Leads, some_piece, walk_le, walk_front, walk_back, along_append, along_take, along_drop, last_append, leads_pieces, leads_walk, leads_along, pieces_lead, walk_leads}
use Rattle.snl_cut.specs.CutLaws.{below_yes, below_no, below_inside, fresh_here}
use Rattle.std.proofs.lemmas.Bool.{cases_lt}

-- A number is among the numbers of a list.
abbrev In : ℕ → List ℕ → Type 0
In a [] = ⊥
In a (x ∷ xs) = (a ≡ x) ⊎ In a xs

in_right : (a : ℕ) (xs ys : List ℕ) → In a ys → In a (xs ++ ys)
in_right a [] ys h = h
in_right a (x ∷ xs) ys h = inr (in_right a xs ys h)

in_below : (text : List ℕ) (from : ℕ) (xs : List ℕ) (to a : ℕ) → Walks piece_length text from xs to → In a xs → a ≤ to
in_below text from [] to a w h = absurd h
in_below text from (x ∷ xs) to a w (inl e) = omega (arith, e, walk_le text x xs to w.2)
in_below text from (x ∷ xs) to a w (inr h) = in_below text x xs to a w.2 h

in_cons : (start meet from x a : ℕ) (es : List ℕ) → In a (fresh start meet x es) → In a (fresh start meet from (x ∷ es))
in_cons start meet from x a es h =
    let rest : List ℕ = fresh start meet x es in
    elim (nat_le start x) as (λ p. In a (cond p (cond (nat_lt from meet) (x ∷ rest) rest) rest)) [
      | true ↦ elim (nat_lt from meet) as (λ q. In a (cond q (x ∷ rest) rest)) [ true ↦ inr h | false ↦ h ]
      | false ↦ h
    ]

-- A member that ends at or after the start and begins before the meeting point is fresh.
in_fresh : (start meet from : ℕ) (xs : List ℕ) (e : ℕ) (es : List ℕ) → start ≤ e → last_end from xs < meet → In e (fresh start meet from (xs ++ e ∷ es))
in_fresh start meet from [] e es h k = subst (In e) (sym (fresh_here start meet from e es h k)) (inl refl)
in_fresh start meet from (x ∷ xs) e es h k = in_cons start meet from x e (xs ++ e ∷ es) (in_fresh start meet x xs e es h k)

-- No boundary is inside a member.
inside_none : (text : List ℕ) (from : ℕ) (xs ys : List ℕ) (a b : ℕ) → Walks piece_length text from xs a → Walks piece_length text from ys b → a < b → a + piece_length (drop a text) ≤ b
inside_none text from xs [] a b h w lt = absurd (omega (arith, w, walk_le text from xs a h))
inside_none text from [] (y ∷ ys) a b h w lt =
    let member : from + piece_length (drop from text) ≤ b = omega (arith, w.1, walk_le text y ys b w.2) in
    subst (λ (p : ℕ). p + piece_length (drop p text) ≤ b) h member
inside_none text from (x ∷ xs) (y ∷ ys) a b h w lt =
    let same : y ≡ x = w.1 ∙ sym h.1 in
    inside_none text x xs ys a b h.2 (subst (λ (p : ℕ). Walks piece_length text p ys b) same w.2) lt

-- Between two boundaries there are whole members.
between : (text : List ℕ) (from : ℕ) (xs ys : List ℕ) (a b : ℕ) → Walks piece_length text from xs a → Walks piece_length text from ys b → a ≤ b → (ws : List ℕ) × Walks piece_length text a ws b
between text from [] ys a b h w le = (ys, subst (λ (p : ℕ). Walks piece_length text p ys b) h w)
between text from (x ∷ xs) [] a b h w le = absurd (omega (arith, w, h.1, (some_piece text from h.0).0, walk_le text x xs a h.2))
between text from (x ∷ xs) (y ∷ ys) a b h w le =
    let same : y ≡ x = w.1 ∙ sym h.1 in
    between text x xs ys a b h.2 (subst (λ (p : ℕ). Walks piece_length text p ys b) same w.2) le

-- After the edit both texts are the same, moved.
pub same_rest : (old text : List ℕ) (start b c p : ℕ) → IsEdit old text start b c → c ≤ p → drop ((p - c) + b) old ≡ drop p text
same_rest old text start b c p edit le =
    let one : b + (p - c) ≡ (p - c) + b = omega arith in
    let other : c + (p - c) ≡ p = omega arith in
    ap (λ (n : ℕ). drop n old) (sym one) ∙ (sym (drop-drop (p - c) b old) ∙ (ap (drop (p - c)) edit.after ∙ (drop-drop (p - c) c text ∙ ap (λ (n : ℕ). drop n text) other)))

lengths : (old text : List ℕ) (start b c : ℕ) → IsEdit old text start b c → (length text - c) + b ≡ length old
lengths old text start b c edit =
    let e : length old - b ≡ length text - c = sym (length-drop b old) ∙ (ap length edit.after ∙ length-drop c text) in
    omega (arith, e, edit.old_inside, edit.new_inside)

-- Members of the new text after the edit are members of the old one.
moved_back : (old text : List ℕ) (start b c : ℕ) → IsEdit old text start b c → (p : ℕ) (ws : List ℕ) (q : ℕ) → c ≤ p → Walks piece_length text p ws q
    → (vs : List ℕ) × Walks piece_length old ((p - c) + b) vs ((q - c) + b)
moved_back old text start b c edit p [] q le w = ([], ap (λ (n : ℕ). (n - c) + b) w)
moved_back old text start b c edit p (x ∷ ws) q le w =
    let further : c ≤ x = omega (arith, w.1) in
    let rest = moved_back old text start b c edit x ws q further w.2 in
    let same : piece_length (drop ((p - c) + b) old) ≡ piece_length (drop p text) = ap piece_length (same_rest old text start b c p edit le) in
    let inside : (p - c) + b < length old = omega (arith, w.0, lengths old text start b c edit) in
    let end_ : (x - c) + b ≡ ((p - c) + b) + piece_length (drop ((p - c) + b) old) = omega (arith, same, w.1) in
    (((x - c) + b) ∷ rest.0, (inside, end_, rest.1))

join_walks : (text : List ℕ) (from : ℕ) (xs : List ℕ) (mid : ℕ) (ys : List ℕ) (to : ℕ) → Walks piece_length text from xs mid → Walks piece_length text mid ys to → Walks piece_length text from (xs ++ ys) to
join_walks text from [] mid ys to h k = subst (λ (p : ℕ). Walks piece_length text p ys to) (sym h) k
join_walks text from (e ∷ xs) mid ys to h k = (h.0, h.1, join_walks text e xs mid ys to h.2 k)

-- The member that ends at a place begins at one place.
same_begin : (text : List ℕ) (xs ys : List ℕ) (a b e : ℕ) → Walks piece_length text 0 xs a → Walks piece_length text 0 ys b → a + piece_length (drop a text) ≡ e → b + piece_length (drop b text) ≡ e → a < length text → b < length text → a ≡ b
same_begin text xs ys a b e h k p q inside_a inside_b =
    elim (cases_lt a b) [
      | inl less ↦ absurd (omega (arith, inside_none text 0 xs ys a b h k less, p, q, (some_piece text b inside_b).0))
      | inr more ↦
          elim (cases_lt b a) [
            | inl less ↦ absurd (omega (arith, inside_none text 0 ys xs b a k h less, p, q, (some_piece text a inside_a).0))
            | inr other ↦ omega arith
          ]
    ]

-- The pieces after a boundary of the old text, moved.
moved_along : (old text : List ℕ) (start b c : ℕ) → IsEdit old text start b c → (p q : ℕ) (es : List ℕ) → b ≤ q → p ≡ (q - b) + c → (to : ℕ) → Walks piece_length old q es to
    → pieces_along text p (moved b c es) ≡ map (moved_piece b c) (pieces_along old q es)
unfolding piece_at
moved_along old text start b c edit p q [] le e to w = refl
moved_along old text start b c edit p q (x ∷ es) le e to w =
    let place : (p - c) + b ≡ q = omega (arith, e) in
    let same : drop p text ≡ drop q old = sym (same_rest old text start b c p edit (omega (arith, e))) ∙ ap (λ (n : ℕ). drop n old) place in
    let F : ℕ → List ℕ → Piece = λ (n : ℕ) (u : List ℕ). record { kind = (first_piece u).0; start = n; len = (first_piece u).1 } in
    let head : F p (drop p text) ≡ F ((q - b) + c) (drop q old) = ap (λ (n : ℕ). F n (drop p text)) e ∙ ap (F ((q - b) + c)) same in
    let tail : pieces_along text ((x - b) + c) (moved b c es) ≡ map (moved_piece b c) (pieces_along old x es) = moved_along old text start b c edit ((x - b) + c) x es (omega (arith, w.1)) refl to w.2 in
    ap (λ (z : Piece). z ∷ pieces_along text ((x - b) + c) (moved b c es)) head ∙ ap (λ (l : List Piece). F ((q - b) + c) (drop q old) ∷ l) tail

-- The pieces before the edit.
pub part_same : (old text : List ℕ) (a from m : ℕ) → take a old ≡ take a text → from + m ≤ a → take m (drop from old) ≡ take m (drop from text)
part_same old text a from m h le =
    let one : take (from + m) old ≡ take (from + m) text = sym (take-take (from + m) a old le) ∙ (ap (take (from + m)) h ∙ take-take (from + m) a text le) in
    sym (drop-take from m old) ∙ (ap (drop from) one ∙ drop-take from m text)

front_along : (old text : List ℕ) (a from : ℕ) (es : List ℕ) (to : ℕ) → take a old ≡ take a text → Walks piece_length old from es to
    → pieces_along text from (take (ends_below a es) es) ≡ pieces_along old from (take (ends_below a es) es)
unfolding piece_at
front_along old text a from [] to h w = refl
front_along old text a from (e ∷ es) to h w =
    let P : ℕ → Type 0 = λ (k : ℕ). pieces_along text from (take k (e ∷ es)) ≡ pieces_along old from (take k (e ∷ es)) in
    elim (cases_lt e a) [
      | inl less ↦
          let agree = part_same old text a from (piece_length (drop from old) + 1) h (omega (arith, w.1)) in
          let same : first_piece (drop from text) ≡ first_piece (drop from old) = first_same (drop from old) (drop from text) (omega (arith, w.0, length-drop from old)) agree in
          let G : Class × ℕ → Piece = λ (p : Class × ℕ). record { kind = p.0; start = from; len = p.1 } in
          let head : piece_at text from ≡ piece_at old from = ap G same in
          let k : ℕ = ends_below a es in
          let rest : pieces_along text e (take k es) ≡ pieces_along old e (take k es) = front_along old text a e es to h w.2 in
          subst P (sym (below_yes e a es less)) (ap (λ (z : Piece). z ∷ pieces_along text e (take k es)) head ∙ ap (λ (l : List Piece). piece_at old from ∷ l) rest)
      | inr more ↦ subst P (sym (below_no e a es more)) refl
    ]

-- The kept back begins at a boundary of the old text, and is moved from there.
back_begin : (old text ends : List ℕ) (start b c front : ℕ) (made : List ℕ) (back : ℕ) → IsEdit old text start b c → Walks piece_length old 0 ends (length old)
    → IsRecut piece_length old ends text start b c front made back → (e : ℕ) (es : List ℕ) → drop (length ends - back) ends ≡ e ∷ es
    → (b ≤ last_end 0 (take (length ends - back) ends)) × (last_end 0 (take front ends ++ made) ≡ (last_end 0 (take (length ends - back) ends) - b) + c)
back_begin old text ends start b c front made back edit cut r e es eq =
    let j : ℕ = length ends - back in
    let q : ℕ = last_end 0 (take j ends) in
    let head : List ℕ = take front ends ++ made in
    let m : ℕ = last_end 0 head in
    let a : ℕ = (e - b) + c in
    let parts : take j ends ++ e ∷ es ≡ ends = ap (λ (l : List ℕ). take j ends ++ l) (sym eq) ∙ take-append-drop j ends in
    let old_walk : Walks piece_length old 0 (take j ends ++ e ∷ es) (length old) = subst (λ (l : List ℕ). Walks piece_length old 0 l (length old)) (sym parts) cut in
    let q_walk = walk_front old 0 (take j ends) (e ∷ es) (length old) old_walk in
    let q_back = walk_back old 0 (take j ends) (e ∷ es) (length old) old_walk in
    let new_walk : Walks piece_length text 0 (head ++ moved b c (e ∷ es)) (length text) =
    subst (λ (l : List ℕ). Walks piece_length text 0 (head ++ moved b c l) (length text)) eq r.whole in
    let m_walk = walk_front text 0 head (moved b c (e ∷ es)) (length text) new_walk in
    let m_back = walk_back text 0 head (moved b c (e ∷ es)) (length text) new_walk in
    let all_fresh : made ≡ fresh start r.meet 0 (head ++ moved b c (e ∷ es)) = subst (λ (l : List ℕ). made ≡ fresh start r.meet 0 (head ++ moved b c l)) eq r.just_fresh in
    let some = some_piece text m m_back.0 in
    let reached : r.meet ≤ m =
    elim (cases_lt m r.meet) [
      | inl less ↦
          let found : In a (fresh start r.meet 0 (head ++ a ∷ moved b c es)) = in_fresh start r.meet 0 head a (moved b c es) (omega (arith, edit.new_order)) less in
          let made_in : In a made = subst (In a) (sym all_fresh) found in
          absurd (omega (arith, in_below text 0 head m a m_walk (in_right a (take front ends) made made_in), m_back.1, some.0))
      | inr more ↦ more
    ]
    in
    let after : c ≤ r.meet = r.meets.after in
    let ws = between text 0 r.meets.in_new.0 head r.meet m r.meets.in_new.1 m_walk reached in
    let vs = moved_back old text start b c edit r.meet ws.0 m after ws.1 in
    let there = join_walks old 0 r.meets.in_old.0 ((r.meet - c) + b) vs.0 ((m - c) + b) r.meets.in_old.1 vs.1 in
    let size : piece_length (drop ((m - c) + b) old) ≡ piece_length (drop m text) = ap piece_length (same_rest old text start b c m edit (omega arith)) in
    let ends_there : ((m - c) + b) + piece_length (drop ((m - c) + b) old) ≡ e = omega (arith, size, m_back.1, some.0) in
    let inside : (m - c) + b < length old = omega (arith, m_back.0, lengths old text start b c edit) in
    let same : (m - c) + b ≡ q = same_begin old (r.meets.in_old.0 ++ vs.0) (take j ends) ((m - c) + b) q e there q_walk ends_there (sym q_back.1) inside q_back.0 in
    (omega arith, omega arith)

back_part : (old text ends : List ℕ) (start b c front : ℕ) (made : List ℕ) (back : ℕ) → IsEdit old text start b c → Walks piece_length old 0 ends (length old)
    → IsRecut piece_length old ends text start b c front made back → (bs : List ℕ) → drop (length ends - back) ends ≡ bs
    → pieces_along text (last_end 0 (take front ends ++ made)) (moved b c bs) ≡ map (moved_piece b c) (pieces_along old (last_end 0 (take (length ends - back) ends)) bs)
back_part old text ends start b c front made back edit cut r [] eq = refl
back_part old text ends start b c front made back edit cut r (e ∷ es) eq =
    let j : ℕ = length ends - back in
    let begun = back_begin old text ends start b c front made back edit cut r e es eq in
    let parts : take j ends ++ e ∷ es ≡ ends = ap (λ (l : List ℕ). take j ends ++ l) (sym eq) ∙ take-append-drop j ends in
    let old_walk : Walks piece_length old 0 (take j ends ++ e ∷ es) (length old) = subst (λ (l : List ℕ). Walks piece_length old 0 l (length old)) (sym parts) cut in
    moved_along old text start b c edit (last_end 0 (take front ends ++ made)) (last_end 0 (take j ends)) (e ∷ es) begun.0 begun.1 (length old) (walk_back old 0 (take j ends) (e ∷ es) (length old) old_walk)

-- Front, made pieces and moved back are the pieces of the new text.
pub recut_pieces : (old text : List ℕ) (ps : List Piece) (start b c front : ℕ) (made : List ℕ) (back : ℕ) → ps ≡ pieces_of old → IsEdit old text start b c
    → IsRecut piece_length old (map piece_end ps) text start b c front made back
    → pieces_of text ≡ (take front ps ++ pieces_along text (last_end 0 (take front (map piece_end ps))) made) ++ map (moved_piece b c) (drop (length ps - back) ps)
recut_pieces old text ps start b c front made back is edit r =
    let ends : List ℕ = map piece_end ps in
    let led : Leads old 0 ps (length old) = subst (λ (l : List Piece). Leads old 0 l (length old)) (sym is) (pieces_lead old) in
    let cut = leads_walk old 0 ps (length old) led in
    let same_old : pieces_along old 0 ends ≡ ps = leads_along old 0 ps (length old) led in
    let j : ℕ = length ends - back in
    let many : length ends ≡ length ps = length-map ps piece_end in
    let kept : List ℕ = take front ends in
    let last : List ℕ = moved b c (drop j ends) in
    let all : pieces_along text 0 ((kept ++ made) ++ last) ≡ pieces_of text = leads_pieces text (pieces_along text 0 ((kept ++ made) ++ last)) (walk_leads text 0 ((kept ++ made) ++ last) (length text) r.whole) in
    let front_same : pieces_along text 0 (take (ends_below start ends) ends) ≡ pieces_along old 0 (take (ends_below start ends) ends) = front_along old text start 0 ends (length old) edit.before cut in
    let front_is : pieces_along text 0 kept ≡ take front ps =
    subst (λ (k : ℕ). pieces_along text 0 (take k ends) ≡ pieces_along old 0 (take k ends)) (sym r.kept) front_same ∙ (sym (along_take old 0 front ends) ∙ ap (take front) same_old) in
    let back_is : pieces_along text (last_end 0 (kept ++ made)) last ≡ map (moved_piece b c) (drop (length ps - back) ps) =
    back_part old text ends start b c front made back edit cut r (drop j ends) refl
    ∙ (ap (map (moved_piece b c)) (sym (along_drop old 0 j ends) ∙ ap (drop j) same_old) ∙ ap (λ (n : ℕ). map (moved_piece b c) (drop (n - back) ps)) many)
    in
    let made_is : List Piece = pieces_along text (last_end 0 kept) made in
    sym all
    ∙ (along_append text 0 (kept ++ made) last
    ∙ (ap (λ (l : List Piece). l ++ pieces_along text (last_end 0 (kept ++ made)) last) (along_append text 0 kept made ∙ ap (λ (l : List Piece). l ++ made_is) front_is)
    ∙ ap (λ (l : List Piece). (take front ps ++ made_is) ++ l) back_is))

-- The made ends are those of a walk from the kept front's end.
pub made_walk : (old text ends : List ℕ) (start b c front : ℕ) (made : List ℕ) (back : ℕ) → IsRecut piece_length old ends text start b c front made back
    → Walks piece_length text (last_end 0 (take front ends)) made (last_end (last_end 0 (take front ends)) made)
made_walk old text ends start b c front made back r =
    let kept : List ℕ = take front ends in
    let head = walk_front text 0 (kept ++ made) (moved b c (drop (length ends - back) ends)) (length text) r.whole in
    subst (λ (n : ℕ). Walks piece_length text (last_end 0 kept) made n) (last_append 0 kept made) (walk_back text 0 kept made (last_end 0 (kept ++ made)) head)

below_next : (place e : ℕ) (es : List ℕ) (k : ℕ) → e < place → k < suc (ends_below place es) → ((m : ℕ) → m < ends_below place es → get_or es m 0 < place) → get_or (e ∷ es) k 0 < place
below_next place e es zero less lt again = less
below_next place e es (suc m) less lt again = again m (omega arith)

below_at : (place : ℕ) (es : List ℕ) (k : ℕ) → k < ends_below place es → get_or es k 0 < place
below_at place [] k lt = absurd (omega arith)
below_at place (e ∷ es) k lt =
    elim (cases_lt e place) [
      | inl less ↦ below_next place e es k less (omega (arith, below_yes e place es less)) (below_at place es)
      | inr more ↦ absurd (omega (arith, below_no e place es more))
    ]

-- Front and back don't overlap.
pub recut_order : (old text ends : List ℕ) (start b c front : ℕ) (made : List ℕ) (back : ℕ) → IsEdit old text start b c → Walks piece_length old 0 ends (length old)
    → IsRecut piece_length old ends text start b c front made back → front + back ≤ length ends
recut_order old text ends start b c front made back edit cut r =
    let j : ℕ = length ends - back in
    elim (cases_lt j front) [
      | inl less ↦
          let most = below_inside start ends in
          let e : ℕ = get_or ends j 0 in
          let eq : drop j ends ≡ e ∷ drop (j + 1) ends = drop_more ends j 0 (omega (arith, r.kept)) in
          let begun = back_begin old text ends start b c front made back edit cut r e (drop (j + 1) ends) eq in
          let parts : take j ends ++ e ∷ drop (j + 1) ends ≡ ends = ap (λ (l : List ℕ). take j ends ++ l) (sym eq) ∙ take-append-drop j ends in
          let old_walk : Walks piece_length old 0 (take j ends ++ e ∷ drop (j + 1) ends) (length old) = subst (λ (l : List ℕ). Walks piece_length old 0 l (length old)) (sym parts) cut in
          let q_back = walk_back old 0 (take j ends) (e ∷ drop (j + 1) ends) (length old) old_walk in
          absurd (omega (arith, below_at start ends j (omega (arith, r.kept)), q_back.1, begun.0, edit.old_order))
      | inr more ↦ omega (arith, r.back_inside)
    ]
