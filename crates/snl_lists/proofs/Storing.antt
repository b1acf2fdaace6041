-- Values under keys: one more, and those that stay where others go.
use Rattle.std.proofs.Common.{◌≡◌, ℕ, zero, suc, List, [], ◌∷◌, ◌++◌, length, map, take, drop, slice_get, slice_index_or, get_or, ◌<◌, ◌≤◌, ◌-◌, Option, Some, None, IsSome, refl, sym, ap, ap₂, ◌∙◌, subst, append_assoc, arith, length-drop}
use Rattle.std.specs.List.{cons_option}
use Rattle.std.proofs.lemmas.List.{append-nil, take-append-drop, take-append-le, drop-append-le, drop-drop, take_all}
use Rattle.std.proofs.Math.Seq.{drop-append_seam}
use Rattle.std.proofs.lemmas.List.Elements.{filter_map-append}
use Rattle.slab.specs.Slab.{Slab, get, Updates}
use Rattle.snl_lists.specs.Keyed.{values_of, Differs, IsDistinct, AreStored, IsKeyed, KeepsOthers, Stores, Turned}
use Rattle.snl_lists.proofs.Keys.{Outside, differs_left, differs_right, distinct_more, not_among, parts}

is_some_not_none : {T : Type 0} (o : Option T) → IsSome o → o ≡ None → ⊥
is_some_not_none None h e = cc
is_some_not_none (Some x) h e = cc

-- what is found under the same slots is the same
pub same_values : {T : Type 0} (old new : Slab T) (ks : List ℕ) → map (get new) ks ≡ map (get old) ks → values_of new ks ≡ values_of old ks
same_values old new [] e = refl
same_values {T} old new (k ∷ ks) e =
    let here : get new k ≡ get old k = cc in
    let rest : map (get new) ks ≡ map (get old) ks = cc in
    ap₂ (λ (o : Option T) (l : List T). cons_option o l) here (same_values old new ks rest)

pub same_stored : {T : Type 0} (old new : Slab T) (ks : List ℕ) → map (get new) ks ≡ map (get old) ks → AreStored old ks → AreStored new ks
same_stored old new [] e h = tt
same_stored {T} old new (k ∷ ks) e h =
    let here : get old k ≡ get new k = cc in
    let rest : map (get new) ks ≡ map (get old) ks = cc in
    (subst (λ (o : Option T). IsSome o) here h.0, same_stored old new ks rest h.1)

pub stored_both : {T : Type 0} (kept : Slab T) (xs ys : List ℕ) → AreStored kept xs → AreStored kept ys → AreStored kept (xs ++ ys)
stored_both kept [] ys h i = i
stored_both kept (x ∷ xs) ys h i = (h.0, stored_both kept xs ys h.1 i)

pub stored_left : {T : Type 0} (kept : Slab T) (xs ys : List ℕ) → AreStored kept (xs ++ ys) → AreStored kept xs
stored_left kept [] ys h = tt
stored_left kept (x ∷ xs) ys h = (h.0, stored_left kept xs ys h.1)

pub stored_right : {T : Type 0} (kept : Slab T) (xs ys : List ℕ) → AreStored kept (xs ++ ys) → AreStored kept ys
stored_right kept [] ys h = h
stored_right kept (x ∷ xs) ys h = stored_right kept xs ys h.1

-- where the slots are the same, all is found as before
pub same_slots : {T : Type 0} (old new : Slab T) (ks : List ℕ) → new.slots ≡ old.slots → map (get new) ks ≡ map (get old) ks
same_slots {T} old new ks e = ap (λ (slots : List (Option T)). map (λ k. slice_index_or slots k None) ks) e

pub keyed_still : {T : Type 0} (old new : Slab T) (before keys : List ℕ) → new.slots ≡ old.slots → keys ≡ before → IsKeyed old before → IsKeyed new keys
keyed_still old new before keys e is h =
    subst (IsKeyed new) (sym is) (record { stored = same_stored old new before (same_slots old new before e) h.stored; distinct = h.distinct })

-- a vacant key is none of those that have values
fresh_differs : {T : Type 0} (kept : Slab T) (key : ℕ) (ks : List ℕ) → get kept key ≡ None → AreStored kept ks → Differs key ks
fresh_differs kept key [] free h = tt
fresh_differs kept key (k ∷ ks) free h = ((λ same. is_some_not_none (get kept k) h.0 (ap (get kept) same ∙ free)), fresh_differs kept key ks free h.1)

pub still : {T : Type 0} (old new : Slab T) (key : ℕ) (slot : Option T) (ks : List ℕ) → Updates old new key slot → Differs key ks → map (get new) ks ≡ map (get old) ks
still old new key slot [] u d = refl
still {T} old new key slot (k ∷ ks) u d = ap₂ (λ (o : Option T) (os : List (Option T)). o ∷ os) (u.others k d.0) (still old new key slot ks u d.1)

pub others_still : {T : Type 0} (old new : Slab T) (gone ks : List ℕ) → KeepsOthers old new gone → Outside gone ks → map (get new) ks ≡ map (get old) ks
others_still old new gone [] k o = refl
others_still {T} old new gone (x ∷ xs) k o = ap₂ (λ (a : Option T) (os : List (Option T)). a ∷ os) (k x (not_among x gone o.0)) (others_still old new gone xs k o.1)

pub stores_none : {T : Type 0} (old : Slab T) (before : List ℕ) → IsKeyed old before → Stores old old before before []
stores_none old before k = record { fresh = []; listed = sym (append-nil before); keyed = k; front = refl; made = refl }

pub stores_more : {T : Type 0} (old mid new : Slab T) (before after : List ℕ) (items : List T) (key : ℕ) (item : T)
    → Stores old mid before after items → get mid key ≡ None → Updates mid new key (Some item) → Stores old new before (after ++ key ∷ []) (items ++ item ∷ [])
stores_more {T} old mid new before after items key item s free u =
    let apart : Differs key after = fresh_differs mid key after free s.keyed.stored in
    let parted : Differs key (before ++ s.fresh) = subst (Differs key) s.listed apart in
    let same_before = still mid new key (Some item) before u (differs_left key before s.fresh parted) in
    let same_fresh = still mid new key (Some item) s.fresh u (differs_right key before s.fresh parted) in
    let one : values_of new (key ∷ []) ≡ item ∷ [] = ap (λ (o : Option T). cons_option o []) u.changed in
    let has : IsSome (get new key) = subst (λ (o : Option T). IsSome o) (sym u.changed) refl in
    record {
      fresh = s.fresh ++ key ∷ [];
      listed = ap (λ l. l ++ key ∷ []) s.listed ∙ append_assoc before s.fresh (key ∷ []);
      keyed = record {
        stored = stored_both new after (key ∷ []) (same_stored mid new after (still mid new key (Some item) after u apart) s.keyed.stored) (has, tt);
        distinct = distinct_more after key s.keyed.distinct apart;
      };
      front = same_values mid new before same_before ∙ s.front;
      made = filter_map-append (get new) s.fresh (key ∷ []) ∙ ap₂ (λ (a b : List T). a ++ b) (same_values mid new s.fresh same_fresh ∙ s.made) one;
    }

one_longer : {T : Type 0} (o : Option T) (l : List T) → IsSome o → length (cons_option o l) ≡ suc (length l)
one_longer None l h = cc
one_longer (Some x) l h = refl

one_taken : {T : Type 0} (o : Option T) (l : List T) (n : ℕ) → IsSome o → take (suc n) (cons_option o l) ≡ cons_option o (take n l)
one_taken None l n h = cc
one_taken (Some x) l n h = refl

one_dropped : {T : Type 0} (o : Option T) (l : List T) (n : ℕ) → IsSome o → drop (suc n) (cons_option o l) ≡ drop n l
one_dropped None l n h = cc
one_dropped (Some x) l n h = refl

-- as many values as keys
pub as_many : {T : Type 0} (kept : Slab T) (ks : List ℕ) → AreStored kept ks → length (values_of kept ks) ≡ length ks
as_many kept [] h = refl
as_many kept (k ∷ ks) h = one_longer (get kept k) (values_of kept ks) h.0 ∙ ap suc (as_many kept ks h.1)

pub values_taken : {T : Type 0} (kept : Slab T) (ks : List ℕ) (n : ℕ) → AreStored kept ks → take n (values_of kept ks) ≡ values_of kept (take n ks)
values_taken kept ks zero h = refl
values_taken kept [] (suc n) h = refl
values_taken {T} kept (k ∷ ks) (suc n) h = one_taken (get kept k) (values_of kept ks) n h.0 ∙ ap (λ (l : List T). cons_option (get kept k) l) (values_taken kept ks n h.1)

pub values_dropped : {T : Type 0} (kept : Slab T) (ks : List ℕ) (n : ℕ) → AreStored kept ks → drop n (values_of kept ks) ≡ values_of kept (drop n ks)
values_dropped kept ks zero h = refl
values_dropped kept [] (suc n) h = refl
values_dropped kept (k ∷ ks) (suc n) h = one_dropped (get kept k) (values_of kept ks) n h.0 ∙ values_dropped kept ks n h.1

one_found : {T : Type 0} (o : Option T) (l : List T) → IsSome o → slice_get (cons_option o l) 0 ≡ o
one_found None l h = cc
one_found (Some x) l h = refl

one_after : {T : Type 0} (o : Option T) (l : List T) (n : ℕ) → IsSome o → slice_get (cons_option o l) (suc n) ≡ slice_get l n
one_after None l n h = cc
one_after (Some x) l n h = refl

-- the value with a number is the one under the key with the number
pub value_at : {T : Type 0} (kept : Slab T) (ks : List ℕ) (n : ℕ) → AreStored kept ks → n < length ks → slice_get (values_of kept ks) n ≡ get kept (get_or ks n 0)
value_at kept [] n h inside = absurd (omega (arith, inside))
value_at kept (k ∷ ks) zero h inside = one_found (get kept k) (values_of kept ks) h.0
value_at kept (k ∷ ks) (suc n) h inside = one_after (get kept k) (values_of kept ks) n h.0 ∙ value_at kept ks n h.1 (omega arith)

pub values_none : {T : Type 0} (kept : Slab T) (ks : List ℕ) (n : ℕ) → AreStored kept ks → length ks ≤ n → slice_get (values_of kept ks) n ≡ None
values_none kept [] n h after = refl
values_none kept (k ∷ ks) zero h after = absurd (omega (arith, after))
values_none kept (k ∷ ks) (suc n) h after = one_after (get kept k) (values_of kept ks) n h.0 ∙ values_none kept ks n h.1 (omega arith)

-- The same, where the four parts of the order are named: a front, what goes, what comes after, and
-- the fresh keys.
turned_parts : {T : Type 0} (old mid new : Slab T) (a r b f : List ℕ) (items : List T)
    → AreStored mid (a ++ (r ++ (b ++ f))) → IsDistinct (a ++ (r ++ (b ++ f))) → KeepsOthers mid new r
    → values_of mid a ≡ values_of old a → values_of mid b ≡ values_of old b → values_of mid f ≡ items
    → IsKeyed new (a ++ (f ++ b)) × (values_of new (a ++ (f ++ b)) ≡ values_of old a ++ (items ++ values_of old b))
turned_parts {T} old mid new a r b f items all apart keeps a_is b_is f_is =
    let p = parts a r b f apart in
    let rest = stored_right mid r (b ++ f) (stored_right mid a (r ++ (b ++ f)) all) in
    let a_same = others_still mid new r a keeps p.front in
    let b_same = others_still mid new r b keeps p.after in
    let f_same = others_still mid new r f keeps p.made in
    let a_stored = same_stored mid new a a_same (stored_left mid a (r ++ (b ++ f)) all) in
    let b_stored = same_stored mid new b b_same (stored_left mid b f rest) in
    let f_stored = same_stored mid new f f_same (stored_right mid b f rest) in (
      record { stored = stored_both new a (f ++ b) a_stored (stored_both new f b f_stored b_stored); distinct = p.turned },
      filter_map-append (get new) a (f ++ b)
          ∙ ap₂ (λ (x y : List T). x ++ y) (same_values mid new a a_same ∙ a_is)
          (filter_map-append (get new) f b ∙ ap₂ (λ (x y : List T). x ++ y) (same_values mid new f f_same ∙ f_is) (same_values mid new b b_same ∙ b_is)),
    )

-- equal values under all keys are equal under the first of them, and under the others
front_equal : {T : Type 0} (old mid : Slab T) (keys : List ℕ) (n : ℕ) → AreStored old keys → AreStored mid keys → values_of mid keys ≡ values_of old keys
    → values_of mid (take n keys) ≡ values_of old (take n keys)
front_equal old mid keys n o m e = sym (values_taken mid keys n m) ∙ ap (take n) e ∙ values_taken old keys n o

back_equal : {T : Type 0} (old mid : Slab T) (keys : List ℕ) (n : ℕ) → AreStored old keys → AreStored mid keys → values_of mid keys ≡ values_of old keys
    → values_of mid (drop n keys) ≡ values_of old (drop n keys)
back_equal old mid keys n o m e = sym (values_dropped mid keys n m) ∙ ap (drop n) e ∙ values_dropped old keys n o

pub turned : {T : Type 0} (old mid new : Slab T) (before after keys : List ℕ) (items : List T) (start stop : ℕ)
    → AreStored old before → Stores old mid before after items → start ≤ stop → stop ≤ length before
    → KeepsOthers mid new (take (stop - start) (drop start after))
    → keys ≡ take start after ++ (drop (length before) after ++ take (length before - stop) (drop stop after))
    → Turned old new before keys items start stop
turned {T} old mid new before after keys items start stop all s le inside keeps is =
    let a : List ℕ = take start before in
    let r : List ℕ = take (stop - start) (drop start before) in
    let b : List ℕ = drop stop before in
    let f : List ℕ = s.fresh in
    let b_there : drop (stop - start) (drop start before) ≡ b = drop-drop (stop - start) start before ∙ ap (λ n. drop n before) (omega arith) in
    let three : before ≡ a ++ (r ++ b) =
    sym (take-append-drop start before) ∙ ap (λ (l : List ℕ). a ++ l) (sym (take-append-drop (stop - start) (drop start before)) ∙ ap (λ (l : List ℕ). r ++ l) b_there) in
    let four : after ≡ a ++ (r ++ (b ++ f)) =
    s.listed ∙ ap (λ (l : List ℕ). l ++ f) three ∙ append_assoc a (r ++ b) f ∙ ap (λ (l : List ℕ). a ++ l) (append_assoc r b f) in
    let a_there : take start after ≡ a = ap (take start) s.listed ∙ take-append-le start before f (omega arith) in
    let r_there : take (stop - start) (drop start after) ≡ r =
    ap (λ (l : List ℕ). take (stop - start) (drop start l)) s.listed ∙ ap (take (stop - start)) (drop-append-le start before f (omega arith))
    ∙ take-append-le (stop - start) (drop start before) f (omega (arith, length-drop start before)) in
    let f_there : drop (length before) after ≡ f = ap (drop (length before)) s.listed ∙ drop-append_seam before f in
    let tail_there : take (length before - stop) (drop stop after) ≡ b =
    ap (λ (l : List ℕ). take (length before - stop) (drop stop l)) s.listed ∙ ap (take (length before - stop)) (drop-append-le stop before f inside)
    ∙ take-append-le (length before - stop) b f (omega (arith, length-drop stop before)) ∙ take_all (length before - stop) b (omega (arith, length-drop stop before)) in
    let keys_are : keys ≡ a ++ (f ++ b) = is ∙ ap₂ (λ (x y : List ℕ). x ++ y) a_there (ap₂ (λ (x y : List ℕ). x ++ y) f_there tail_there) in
    let mid_before : AreStored mid before = stored_left mid before f (subst (AreStored mid) s.listed s.keyed.stored) in
    let got = turned_parts old mid new a r b f items (subst (AreStored mid) four s.keyed.stored) (subst IsDistinct four s.keyed.distinct) (subst (KeepsOthers mid new) r_there keeps)
    (front_equal old mid before start all mid_before s.front) (back_equal old mid before stop all mid_before s.front) s.made in
    record {
      keyed = subst (IsKeyed new) (sym keys_are) got.0;
      values = ap (values_of new) keys_are ∙ got.1
          ∙ ap₂ (λ (x y : List T). x ++ (items ++ y)) (sym (values_taken old before start all)) (sym (values_dropped old before stop all));
    }
