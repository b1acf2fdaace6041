-- Walks along targets, and what a search that follows them knows.
use Rattle.std.proofs.Common.{◌≡◌, ◌⊎◌, ◌↔◌, ℕ, zero, suc, ◌+◌, ◌-◌, ◌<◌, true, false, List, [], ◌∷◌, ◌++◌, length, replicate, get_or, slice_get, slice_index_or, All, Contains, Some, Vec, inl, inr, refl, sym, ap, subst, ◌∙◌, arith}
use Rattle.std.specs.declared.alloc.Global.{Global}
use Rattle.std.proofs.lemmas.Bool.{false≢true, cases_lt}
use Rattle.std.proofs.lemmas.List.{get_or-map, get_or-replicate, get_or_append_left, length-append, length-map, length-replicate}
use Rattle.std.proofs.lemmas.List.Elements.{All-contains, All-get_or, All-push, Contains-append_left, Contains-push, Contains-push_cases}
use Rattle.std.proofs.lemmas.Option.{get_or_from_slice_get, slice_get-get_or, slice_get_within}
use Rattle.std.proofs.Math.Seq.{get_or-append_seam}
use Rattle.snl_check.specs.declared.reachability.reaching.Search.{Search}
use Rattle.snl_check.specs.Reach.{AreStates, Enters, HasReached, IsReached, IsTarget, IsWalk, target_lists}

module _ (targets : List (List ℕ)) where
  -- the initial state is reached by a walk of no steps
  pub first_reached : 0 < length targets → IsReached targets 0
  first_reached h = (
    0 ∷ [],
    record {
      begins = refl;
      ends = refl;
      states = All-push (λ s. s < length targets) [] 0 (λ k d l. absurd (omega arith)) h;
      steps = λ k d l. absurd (omega arith);
    },
  )

  module _ (walk : List ℕ) (first last t : ℕ) (along : IsWalk targets first last walk) (step : IsTarget targets last t) where
    some : 0 < length walk
    some = slice_get_within walk 0 first along.begins

    -- what the longer walk has at a state of the walk, and at its end
    front : (k d : ℕ) → k < length walk → get_or (walk ++ t ∷ []) k d ≡ get_or walk k d
    front k d l = get_or_append_left walk (t ∷ []) d k l

    back : (d : ℕ) → get_or (walk ++ t ∷ []) (length walk) d ≡ t
    back d = get_or-append_seam walk t [] d

    longer : length (walk ++ t ∷ []) ≡ length walk + 1
    longer = length-append walk (t ∷ [])

    goes : (k d : ℕ) → k + 1 < length (walk ++ t ∷ []) → IsTarget targets (get_or (walk ++ t ∷ []) k d) (get_or (walk ++ t ∷ []) (k + 1) d)
    goes k d l =
        elim (cases_lt (k + 1) (length walk)) [
          | inl inside ↦
              subst (λ s. IsTarget targets s (get_or (walk ++ t ∷ []) (k + 1) d)) (sym (front k d (omega arith)))
              (subst (IsTarget targets (get_or walk k d)) (sym (front (k + 1) d inside)) (along.steps k d inside))
          | inr past ↦
              let at_end : k + 1 ≡ length walk = omega (arith, longer) in
              let before : length walk - 1 ≡ k = omega (arith, some) in
              let is_last : get_or (walk ++ t ∷ []) k d ≡ last = front k d (omega arith) ∙ ap (λ i. get_or walk i d) (sym before) ∙ get_or_from_slice_get walk (length walk - 1) last d along.ends in
              let is_next : get_or (walk ++ t ∷ []) (k + 1) d ≡ t = ap (λ i. get_or (walk ++ t ∷ []) i d) at_end ∙ back d in
              subst (λ s. IsTarget targets s (get_or (walk ++ t ∷ []) (k + 1) d)) (sym is_last) (subst (IsTarget targets last) (sym is_next) step)
        ]

    -- one more step
    pub walk_more : t < length targets → IsWalk targets first t (walk ++ t ∷ [])
    walk_more h = record {
      begins = slice_get-get_or (walk ++ t ∷ []) 0 0 (omega (arith, longer)) ∙ ap Some (front 0 0 some ∙ get_or_from_slice_get walk 0 first 0 along.begins);
      ends =
          let last_place : length (walk ++ t ∷ []) - 1 ≡ length walk = omega (arith, longer) in
          ap (slice_get (walk ++ t ∷ [])) last_place ∙ slice_get-get_or (walk ++ t ∷ []) (length walk) 0 (omega (arith, longer)) ∙ ap Some (back 0);
      states = All-push (λ s. s < length targets) walk t along.states h;
      steps = goes;
    }

  pub reached_more : (s t : ℕ) → IsReached targets s → IsTarget targets s t → t < length targets → IsReached targets t
  reached_more s t (walk, along) step h = (walk ++ t ∷ [], walk_more walk 0 s t along step h)

  -- what holds of the first state, and of each target of a state that it holds of, holds of each
  -- state of a walk
  module _ (P : ℕ → Type 0) (goes_on : (s t : ℕ) → P s → IsTarget targets s t → P t) (walk : List ℕ) (first last : ℕ) (along : IsWalk targets first last walk) (here : P first) where
    each_of_walk : (k : ℕ) → k < length walk → P (get_or walk k 0)
    each_of_walk zero l = subst P (sym (get_or_from_slice_get walk 0 first 0 along.begins)) here
    each_of_walk (suc k) l =
        let next : P (get_or walk (k + 1) 0) = goes_on (get_or walk k 0) (get_or walk (k + 1) 0) (each_of_walk k (omega (arith, l))) (along.steps k 0 (omega (arith, l))) in
        let place : k + 1 ≡ suc k = omega arith in
        subst (λ i. P (get_or walk i 0)) place next

    pub end_of_walk : P last
    end_of_walk =
        let some = slice_get_within walk 0 first along.begins in
        subst P (get_or_from_slice_get walk (length walk - 1) last 0 along.ends) (each_of_walk (length walk - 1) (omega (arith, some)))

  -- A search that follows targets: what it has come to is reached, and of a state that doesn't wait
  -- it has come to each target.
  pub record Follows (search : Search) : Type 0 where
    pub as_long : length search.reached.items ≡ length targets
    pub begins : 0 < length targets → HasReached search 0
    pub sound : (s : ℕ) → HasReached search s → IsReached targets s
    pub whole : (s : ℕ) → HasReached search s → Contains search.waiting.items s ⊎ ((t : ℕ) → IsTarget targets s t → HasReached search t)
    pub come : (s : ℕ) → Contains search.waiting.items s → HasReached search s

  -- a search that has not begun
  module _ (search : Search) (none_yet : search.reached.items ≡ replicate (length targets) false) (idle : search.waiting.items ≡ []) where
    count : length search.reached.items ≡ length targets
    count = ap length none_yet ∙ length-replicate (length targets) false

    none_reached : (s : ℕ) → HasReached search s → ⊥
    none_reached s h =
        let l = slice_get_within search.reached.items s true h in
        let not_here = ap (λ listed. get_or listed s false) none_yet ∙ get_or-replicate (length targets) s false false (omega (arith, l, count)) in
        false≢true (sym not_here ∙ get_or_from_slice_get search.reached.items s true false h)

    none_waits : (s : ℕ) → Contains search.waiting.items s → ⊥
    none_waits s h = let (k, l, e) = subst (λ states. Contains states s) idle h in omega (arith, l)

    pub follows_none : length targets ≡ 0 → Follows search
    follows_none none = record {
      as_long = count;
      begins = λ l. absurd (omega (arith, l, none));
      sound = λ s h. absurd (none_reached s h);
      whole = λ s h. absurd (none_reached s h);
      come = λ s h. absurd (none_waits s h);
    }

    pub follows_first : (new : Search) → 0 < length targets → Enters search new (0 ∷ []) → Follows new
    follows_first new some first =
        let called : (s : ℕ) → Contains (0 ∷ []) s → 0 ≡ s = λ s h. elim (Contains-push_cases [] 0 s h) [ inl (k, l, e) ↦ absurd (omega (arith, l)) | inr e ↦ e ] in
        record {
          as_long = first.as_long ∙ count;
          begins = λ l. All-contains (HasReached new) (0 ∷ []) 0 first.entered (Contains-push [] 0);
          sound = λ s h. elim (first.fresh s h) [ inl old ↦ absurd (none_reached s old) | inr k ↦ subst (IsReached targets) (called s k.0) (first_reached some) ];
          whole = λ s h. elim (first.fresh s h) [ inl old ↦ absurd (none_reached s old) | inr k ↦ inl k.1 ];
          come = λ s h. elim (first.called s h) [ inl old ↦ absurd (none_waits s old) | inr k ↦ All-contains (HasReached new) (0 ∷ []) s first.entered k ];
        }

  -- the search takes a state that waits
  module _ (before taken : Search) (s : ℕ) (follows : Follows before) (same : taken.reached.items ≡ before.reached.items) (waited : before.waiting.items ≡ taken.waiting.items ++ s ∷ []) where
    was_reached : HasReached before s
    was_reached = follows.come s (subst (λ states. Contains states s) (sym waited) (Contains-push taken.waiting.items s))

    taken_within : s < length targets
    taken_within = let l = slice_get_within before.reached.items s true was_reached in omega (arith, l, follows.as_long)

    -- what the search has come to is the same
    still : (t : ℕ) → HasReached before t → HasReached taken t
    still t h = ap (λ listed. slice_get listed t) same ∙ h

    ever : (t : ℕ) → HasReached taken t → HasReached before t
    ever t h = ap (λ listed. slice_get listed t) (sym same) ∙ h

    rest : (t : ℕ) → Contains taken.waiting.items t → Contains before.waiting.items t
    rest t h = subst (λ states. Contains states t) (sym waited) (Contains-append_left taken.waiting.items (s ∷ []) t h)

    module _ (new : Search) (row : List ℕ) (own : slice_index_or targets s [] ≡ row) (states : All (λ t. t < length targets) row) (comes : Enters taken new row) where
      is_target : (t : ℕ) → Contains row t → IsTarget targets s t
      is_target t h = subst (λ ts. Contains ts t) (sym own) h

      sound : (t : ℕ) → HasReached new t → IsReached targets t
      sound t h =
          elim (comes.fresh t h) [
            | inl old ↦ follows.sound t (ever t old)
            | inr k ↦ reached_more s t (follows.sound s was_reached) (is_target t k.0) (All-contains (λ t. t < length targets) row t states k.0)
          ]

      whole : (t : ℕ) → HasReached new t → Contains new.waiting.items t ⊎ ((u : ℕ) → IsTarget targets t u → HasReached new u)
      whole t h =
          elim (comes.fresh t h) [
            | inr k ↦ inl k.1
            | inl old ↦ elim (follows.whole t (ever t old)) [
              | inr all ↦ inr (λ u k. comes.kept u (still u (all u k)))
              | inl waits ↦ elim (Contains-push_cases taken.waiting.items s t (subst (λ states. Contains states t) waited waits)) [
                | inl k ↦ inl (comes.waits t k)
                | inr e ↦ inr (λ u k. All-contains (HasReached new) row u comes.entered (subst (λ ts. Contains ts u) own (subst (λ n. IsTarget targets n u) (sym e) k)))
              ]
            ]
          ]

      pub follows_more : Follows new
      follows_more = record {
        as_long = comes.as_long ∙ ap length same ∙ follows.as_long;
        begins = λ l. comes.kept 0 (still 0 (follows.begins l));
        sound = sound;
        whole = whole;
        come = λ t h. elim (comes.called t h) [ inl k ↦ comes.kept t (still t (follows.come t (rest t k))) | inr k ↦ All-contains (HasReached new) row t comes.entered k ];
      }

  -- at the end nothing waits
  pub follows_all : (search : Search) → Follows search → length search.waiting.items ≡ 0 → (s : ℕ) → HasReached search s ↔ IsReached targets s
  follows_all search follows idle s = (follows.sound s, λ (walk, along). end_of_walk (HasReached search) goes_on walk 0 s along (follows.begins (some walk along)))
    where
      goes_on : (t u : ℕ) → HasReached search t → IsTarget targets t u → HasReached search u
      goes_on t u h k = elim (follows.whole t h) [ inl (i, l, e) ↦ absurd (omega (arith, l, idle)) | inr all ↦ all u k ]

      -- where there is a walk, there is a state
      some : (walk : List ℕ) → IsWalk targets 0 s walk → 0 < length targets
      some walk along = let l = slice_get_within walk 0 0 along.begins in let first = along.states 0 0 l in omega (arith, first)

-- the targets of one state, as the code reads them
module _ (rows : List (Vec ℕ Global)) (s : ℕ) (row : Vec ℕ Global) (within : s < length rows) (at : row ≡ get_or rows s row) where
  pub own_targets : slice_index_or (target_lists rows) s [] ≡ row.items
  own_targets = get_or-map (λ r. r.items) rows s row [] within ∙ ap (λ r. r.items) (sym at)

  pub own_states : AreStates (target_lists rows) → All (λ t. t < length (target_lists rows)) row.items
  own_states states =
      subst (All (λ t. t < length (target_lists rows))) own_targets
      (All-get_or (All (λ t. t < length (target_lists rows))) (target_lists rows) s [] (omega (arith, within, length-map rows (λ r. r.items))) states)

-- a state that waits has targets
pub row_within : (rows : List (Vec ℕ Global)) (search : Search) (waiting : Vec ℕ Global) (s : ℕ) → Follows (target_lists rows) search → search.waiting.items ≡ waiting.items ++ s ∷ [] → s < length rows
row_within rows search waiting s follows waited =
    let taken : Search = record { reached = search.reached; waiting = waiting } in
    omega (arith, taken_within (target_lists rows) search taken s follows refl waited, length-map rows (λ r. r.items))
