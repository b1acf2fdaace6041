-- What uses of names mean by the table of channels is what they mean by the channels; and the table
-- made of the rows of tables.
use Rattle.std.proofs.Common.{◌≡◌, ◌≢◌, ℕ, zero, suc, ◌+◌, ◌<◌, ◌≤◌, ◌&&◌, ◌||◌, Bool, true, false, cond, List, [], ◌∷◌, ◌++◌, length, map, take, get_or, slice_get, nat_eq, Option, Some, None, is_some, if◌then◌else◌, inl, inr, refl, sym, ap, ap₂, ◌∙◌, arith, add-one}
use Rattle.std.specs.List.{cons_option, filter_map, list_any, position}
use Rattle.std.specs.Map.{lookup}
use Rattle.std.specs.Option.{option_and_then, option_map, option_map_or, option_or}
use Rattle.std.proofs.lemmas.Bool.{cases_eq, eq-eqb, eqb-true, false_from_ne_true}
use Rattle.std.proofs.lemmas.List.{length-take-le}
use Rattle.std.proofs.lemmas.List.Quantifiers.{position-Some}
use Rattle.std.proofs.lemmas.Option.{slice_get-map}
use Rattle.snl_facts.specs.Options.{or_none}
use Rattle.snl_facts.specs.Positions.{any_position, position_push}
use Rattle.snl_scope.specs.declared.names.namespaces.Namespace.TheVariants as namespace
use Rattle.snl_summary.specs.declared.summary.Outline.{Outline}
use Rattle.snl_scope.specs.Below.{all_below}
use Rattle.snl_scope.specs.Clauses.{resolve_in}
use Rattle.snl_scope.specs.Flags.{flag_number}
use Rattle.snl_scope.specs.Names.{Entry, entries, has_name, number_in, resolve}
use Rattle.snl_scope.specs.Places.{enclosing_set}
use Rattle.snl_walk.specs.declared.used.WakeUse.{WakeUse}
use Rattle.snl_walk.specs.Tokens.{token_bytes}
use Rattle.snl_tables.specs.declared.rows.ChannelRow.{ChannelRow}
use Rattle.snl_tables.specs.declared.rows.WakeUp.{WakeUp}
use Rattle.snl_tables.specs.declared.rows.WakeUp.TheVariants as wake
use Rattle.snl_check.specs.declared.rows.channel_numbers.ElementKey.{ElementKey}
use Rattle.snl_check.specs.declared.rows.channel_numbers.Which.{Which}
use Rattle.snl_check.specs.declared.rows.channel_numbers.Which.TheVariants as which
use Rattle.snl_check.specs.Channels.{AssignedChannel, element_number, is_channel_of, is_element, is_element_of, is_on, variables_before}
use Rattle.snl_check.specs.Conditions.{by_flag, on_declaration, on_variable, wake_up, wake_ups}
use Rattle.snl_item_check.specs.Items.{ProgramItem, tokens_in}
use Rattle.snl_check.specs.Numbered.{Adds, AddsAll, HoldsBelow, element_at, element_in, first_meant, first_of, has_key, has_subscript, meant_by, same_key, variable_by, wake_by}
use Rattle.snl_check.specs.ChannelLaws.{list_at, lists_count}
use Rattle.snl_check.specs.SetsLaws.{get_here}

-- ---- a name means a declaration that there is

module _ (ss : List Outline) (i : ℕ) (name : List ℕ) where
  one_within : (es : List Entry) (o p : Option ℕ) → ((n : ℕ) → o ≡ Some n → n < length es) → ((n : ℕ) → p ≡ Some n → n < length es) → (n : ℕ) → option_or o p ≡ Some n → n < length es
  one_within es None p f g n e = g n e
  one_within es (Some m) p f g n e = f n e

  found_within : (es : List Entry) (test : Entry → Bool) (n : ℕ) → position test es ≡ Some n → n < length es
  found_within [] test n e = absurd cc
  found_within (x ∷ es) test n e = (position-Some test (x ∷ es) n x e).0

  outer_within : (es : List Entry) (place : Option ℕ) (n : ℕ) → resolve es place name ≡ Some n → n < length es
  outer_within es None n e = found_within es (has_name namespace.Program name) n e
  outer_within es (Some k) n e =
      one_within es (number_in es (namespace.StateSet k) name) (number_in es namespace.Program name) (found_within es (has_name (namespace.StateSet k) name))
      (found_within es (has_name namespace.Program name)) n e

  pub declared_within : (v : ℕ) → resolve_in ss i name ≡ Some v → v < length (entries ss)
  declared_within =
      one_within (entries ss) (number_in (entries ss) (namespace.State i) name) (resolve (entries ss) (enclosing_set ss i) name)
      (found_within (entries ss) (has_name (namespace.State i) name)) (outer_within (entries ss) (enclosing_set ss i))

-- ---- what uses mean

module _ (text : List ℕ) (xs : List ProgramItem) (ss : List Outline) (cs : List AssignedChannel) (held : List (ElementKey × ℕ)) (item : ℕ) where
  abbrev IsNumbered : Type 0
  IsNumbered = (v : ℕ) → v < length (entries ss) → (w : Which) → lookup (same_key (record { variable = v; which = w })) held ≡ element_number cs v (element_in w)

  variable_same : (o : Option ℕ) → (is_some o ≡ true → IsNumbered) → (v : ℕ) → v < length (entries ss) → variable_by held o v ≡ on_variable cs o v
  variable_same None numbered v l = refl
  variable_same (Some e) numbered v l =
      ap₂ (λ (b : Bool) (o : Option ℕ). if b then option_map wake.Channel o else Some (wake.Variable v))
      (ap is_some (numbered refl v l which.Any) ∙ sym (any_position (is_element_of v None) cs)) (numbered refl v l (which.Element e))

  wake_same : (u : WakeUse) → (has_subscript u ≡ true → IsNumbered) → wake_by text (tokens_in xs item) ss held item u ≡ wake_up text xs ss cs item u
  wake_same u numbered = by (resolve_in ss item name) (declared_within ss item name)
    where
      name : List ℕ
      name = token_bytes text (tokens_in xs item) u.token

      by : (o : Option ℕ) → ((v : ℕ) → o ≡ Some v → v < length (entries ss)) → option_and_then (meant_by ss held u.subscript) o ≡ option_and_then (on_declaration ss cs u.subscript) o
      by None within = refl
      by (Some v) within = ap (by_flag (flag_number ss v)) (variable_same u.subscript numbered v (within v refl))

  pub wakes_same : (us : List WakeUse) → (list_any has_subscript us ≡ true → IsNumbered) → filter_map (wake_by text (tokens_in xs item) ss held item) us ≡ wake_ups text xs ss cs item us
  wakes_same [] numbered = refl
  wakes_same (u ∷ us) numbered =
      ap₂ (λ (o : Option WakeUp) (rest : List WakeUp). cons_option o rest)
      (wake_same u (λ here. numbered (ap (λ b. b || list_any has_subscript us) here)))
      (wakes_same us (λ there. numbered (ap (λ b. has_subscript u || b) there ∙ either (has_subscript u))))
    where
      either : (b : Bool) → (b || true) ≡ true
      either true = refl
      either false = refl

-- ---- the table made of rows

or_joins : (o p q : Option ℕ) → option_or (option_or o p) q ≡ option_or o (option_or p q)
or_joins None p q = refl
or_joins (Some n) p q = refl

first_join : (p : ℕ → Bool) (ns ms : List ℕ) → first_of p (ns ++ ms) ≡ option_or (first_of p ns) (first_of p ms)
first_join p [] ms = refl
first_join p (n ∷ ns) ms = by (p n) (first_join p ns ms)
  where
    by : (b : Bool) → first_of p (ns ++ ms) ≡ option_or (first_of p ns) (first_of p ms)
        → (if b then Some n else first_of p (ns ++ ms)) ≡ option_or (if b then Some n else first_of p ns) (first_of p ms)
    by true rest = refl
    by false rest = rest

first_more : (p : ℕ → Bool) (ns : List ℕ) (i n : ℕ) → slice_get ns i ≡ Some n → first_of p (take (i + 1) ns) ≡ option_or (first_of p (take i ns)) (if p n then Some n else None)
first_more p [] i n at = absurd cc
first_more p (m ∷ ns) zero n at = let same : m ≡ n = cc in ap (λ k. if p k then Some k else None) same
first_more p (m ∷ ns) (suc i) n at =
    let more : suc i + 1 ≡ suc (i + 1) = omega arith in
    ap (λ k. first_of p (take k (m ∷ ns))) more ∙ ap (λ o. if p m then Some m else o) (first_more p ns i n at) ∙ by (p m)
  where
    by : (b : Bool) → (if b then Some m else option_or (first_of p (take i ns)) (if p n then Some n else None)) ≡ option_or (if b then Some m else first_of p (take i ns)) (if p n then Some n else None)
    by true = refl
    by false = refl

first_none : (p : ℕ → Bool) (ns : List ℕ) → ((n : ℕ) → p n ≡ false) → first_of p ns ≡ None
first_none p [] h = refl
first_none p (n ∷ ns) h = ap (λ b. if b then Some n else first_of p ns) (h n) ∙ first_none p ns h

first_alike : (p q : ℕ → Bool) (ns : List ℕ) → ((n : ℕ) → p n ≡ q n) → first_of p ns ≡ first_of q ns
first_alike p q [] h = refl
first_alike p q (n ∷ ns) h = ap₂ (λ (b : Bool) (o : Option ℕ). if b then Some n else o) (h n) (first_alike p q ns h)

-- one more channel of a variable
pub adds_none_of : (held : List (ElementKey × ℕ)) (variable : ℕ) (rows : List ChannelRow) → AddsAll held held variable rows []
adds_none_of held variable rows = record { each = λ k. sym (or_none (lookup (same_key k) held)) }

pub adds_one_more : (before between after : List (ElementKey × ℕ)) (variable : ℕ) (rows : List ChannelRow) (ns : List ℕ) (i n : ℕ) → slice_get ns i ≡ Some n →
    AddsAll before between variable rows (take i ns) → Adds between after (has_key variable (element_at rows n)) n → AddsAll before after variable rows (take (i + 1) ns)
adds_one_more before between after variable rows ns i n at all one =
    record {
      each = λ k.
          let test : ℕ → Bool = λ m. has_key variable (element_at rows m) k in
          one.each k ∙ ap (λ o. option_or o (if test n then Some n else None)) (all.each k)
          ∙ or_joins (lookup (same_key k) before) (first_of test (take i ns)) (if test n then Some n else None)
          ∙ ap (option_or (lookup (same_key k) before)) (sym (first_more test ns i n at));
    }

-- one more variable
pub tells_nothing : (rows : List ChannelRow) (lists : List (List ℕ)) → HoldsBelow [] rows lists 0
tells_nothing rows lists = record { below = λ k l. absurd (omega (arith, l)); past = λ k l. refl }

pub holds_one_more : (before after : List (ElementKey × ℕ)) (rows : List ChannelRow) (lists : List (List ℕ)) (n : ℕ) → HoldsBelow before rows lists n →
    AddsAll before after n rows (get_or lists n []) → HoldsBelow after rows lists (n + 1)
holds_one_more before after rows lists n holds all = record { below = below; past = past }
  where
    own : (k : ElementKey) → n ≡ k.variable → lookup (same_key k) after ≡ first_meant rows k.which (get_or lists k.variable [])
    own k same =
        all.each k ∙ ap (λ o. option_or o (first_of (λ m. has_key n (element_at rows m) k) (get_or lists n []))) (holds.past k (omega (arith, same)))
        ∙ first_alike (λ m. has_key n (element_at rows m) k) (λ m. is_element (element_in k.which) (element_at rows m)) (get_or lists n [])
        (λ m. ap (λ b. b && is_element (element_in k.which) (element_at rows m)) (eq-eqb n k.variable same))
        ∙ ap (λ v. first_meant rows k.which (get_or lists v [])) same

    other : (k : ElementKey) → n ≢ k.variable → lookup (same_key k) after ≡ lookup (same_key k) before
    other k apart =
        all.each k
        ∙ ap (option_or (lookup (same_key k) before)) (first_none (λ m. has_key n (element_at rows m) k) (get_or lists n [])
        (λ m. ap (λ b. b && is_element (element_in k.which) (element_at rows m)) (false_from_ne_true (nat_eq n k.variable) (λ h. apart (eqb-true n k.variable h)))))
        ∙ or_none (lookup (same_key k) before)

    below : (k : ElementKey) → k.variable < n + 1 → lookup (same_key k) after ≡ first_meant rows k.which (get_or lists k.variable [])
    below k l =
        elim (cases_eq n k.variable) [
          | inl same ↦ own k same
          | inr apart ↦ other k apart ∙ holds.below k (omega (arith, l, apart))
        ]

    past : (k : ElementKey) → n + 1 ≤ k.variable → lookup (same_key k) after ≡ None
    past k l = other k (λ same. omega (arith, l, same)) ∙ holds.past k (omega (arith, l))

-- ---- the rows of channels, and the channels

module _ (rows : List ChannelRow) (cs : List AssignedChannel) (elements : map (λ (r : ChannelRow). r.element) rows ≡ map (λ (c : AssignedChannel). c.element) cs) where
  element_is : (n : ℕ) (c : AssignedChannel) → slice_get cs n ≡ Some c → element_at rows n ≡ c.element
  element_is n c at = by (slice_get rows n) got
    where
      got : option_map (λ (r : ChannelRow). r.element) (slice_get rows n) ≡ Some c.element
      got =
          sym (slice_get-map (λ (r : ChannelRow). r.element) rows n) ∙ ap (λ (l : List (Option ℕ)). slice_get l n) elements
          ∙ slice_get-map (λ (a : AssignedChannel). a.element) cs n ∙ ap (option_map (λ (a : AssignedChannel). a.element)) at

      by : (o : Option ChannelRow) → option_map (λ (r : ChannelRow). r.element) o ≡ Some c.element → option_and_then (λ (r : ChannelRow). r.element) o ≡ c.element
      by None e = absurd cc
      by (Some r) e = cc

  first_below : (v : ℕ) (w : Which) (n : ℕ) → n ≤ length cs → first_meant rows w (all_below (is_channel_of cs v) n) ≡ position (is_element_of v (element_in w)) (take n cs)
  first_below v w zero l = refl
  first_below v w (suc n) l =
      let found = get_here cs n l in
      let c = found.0 in
      let at : slice_get cs n ≡ Some c = found.1 in
      let count : length (take n cs) ≡ n = length-take-le n cs (omega (arith, l)) in
      let test : ℕ → Bool = λ m. is_element (element_in w) (element_at rows m) in
      first_join test (all_below (is_channel_of cs v) n) (if is_channel_of cs v n then n ∷ [] else [])
      ∙ ap₂ option_or (first_below v w n (omega (arith, l)))
      (ap (λ o. first_of test (if option_map_or (is_on v) o false then n ∷ [] else [])) at ∙ here n c (element_is n c at) (is_on v c))
      ∙ sym (ap (position (is_element_of v (element_in w))) (ap (λ k. take k cs) (sym (add-one n)) ∙ mapped_more_take n c at)
      ∙ position_push (is_element_of v (element_in w)) (take n cs) c
      ∙ ap (λ k. option_or (position (is_element_of v (element_in w)) (take n cs)) (cond (is_element_of v (element_in w) c) (Some k) None)) count)
    where
      here : (n : ℕ) (c : AssignedChannel) → element_at rows n ≡ c.element → (b : Bool) →
          first_of (λ m. is_element (element_in w) (element_at rows m)) (if b then n ∷ [] else []) ≡ cond (b && is_element (element_in w) c.element) (Some n) None
      here n c is true = ap (λ o. if is_element (element_in w) o then Some n else None) is
      here n c is false = refl

      mapped_more_take : (n : ℕ) (c : AssignedChannel) → slice_get cs n ≡ Some c → take (n + 1) cs ≡ take n cs ++ c ∷ []
      mapped_more_take n c at = taken cs n c at
        where
          taken : (xs : List AssignedChannel) (n : ℕ) (x : AssignedChannel) → slice_get xs n ≡ Some x → take (n + 1) xs ≡ take n xs ++ x ∷ []
          taken [] n x at = absurd cc
          taken (y ∷ xs) zero x at = let same : y ≡ x = cc in ap (λ z. z ∷ []) same
          taken (y ∷ xs) (suc n) x at =
              let more : suc n + 1 ≡ suc (n + 1) = omega arith in
              ap (λ k. take k (y ∷ xs)) more ∙ ap (λ l. y ∷ l) (taken xs n x at)

  pub numbered_by_rows : (held : List (ElementKey × ℕ)) (count : ℕ) → HoldsBelow held rows (variables_before cs count) (length (variables_before cs count)) →
      (v : ℕ) → v < count → (w : Which) → lookup (same_key (record { variable = v; which = w })) held ≡ element_number cs v (element_in w)
  numbered_by_rows held count holds v l w =
      holds.below (record { variable = v; which = w }) (omega (arith, l, lists_count cs count))
      ∙ ap (first_meant rows w) (list_at cs count v [] l)
      ∙ first_below v w (length cs) (omega arith)
      ∙ ap (position (is_element_of v (element_in w))) (take_all cs)
    where
      take_all : (xs : List AssignedChannel) → take (length xs) xs ≡ xs
      take_all [] = refl
      take_all (x ∷ xs) = ap (λ l. x ∷ l) (take_all xs)
