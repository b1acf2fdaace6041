-- The table of channels by variable and element, and the channels of each declaration: what one
-- more channel is to them.
use Rattle.std.proofs.Common.{◌≡◌, ℕ, zero, suc, ◌<◌, ◌≤◌, Bool, true, false, ◌&&◌, ◌||◌, cond, List, [], ◌∷◌, ◌++◌, length, slice_get, nat_eq, Option, None, Some, is_some, refl, sym, ap, subst, ◌∙◌, true≢false, inl, inr, if◌then◌else◌, arith, length-append}
use Rattle.std.proofs.Math.ListN.{set}
use Rattle.std.proofs.Math.Seq.{set-append_seam}
use Rattle.std.proofs.lemmas.Bool.{and_parts, cases_lt, false_from_ne_true}
use Rattle.std.proofs.lemmas.List.{append-nil, set-append_left}
use borrow.Author.Tests.{eq-eqb}
use Rattle.std.proofs.lemmas.Bool.Decides.{Decides-eqb}
use Rattle.std.specs.Map.{lookup}
use Rattle.std.specs.Option.{option_map_or, option_or}
use Rattle.snl_scope.specs.BelowLaws.{all_below_same}
use Rattle.snl_facts.specs.Options.{none_or, or_none}
use Rattle.snl_facts.specs.Positions.{position_push}
use Rattle.snl_scope.specs.Below.{all_below}
use Rattle.snl_check.specs.declared.rows.channel_numbers.ElementKey.{ElementKey}
use Rattle.snl_check.specs.declared.rows.channel_numbers.Which.{Which}
use Rattle.snl_check.specs.declared.rows.channel_numbers.Which.TheVariants as which
use Rattle.snl_check.specs.contracts.rows.channel_numbers.ElementKeyPartialEq.TheImpl as key_eq
use Rattle.snl_check.specs.contracts.rows.channel_numbers.WhichPartialEq.TheImpl as which_eq
use Rattle.snl_check.specs.ChannelLaws.{lists_count}
use Rattle.snl_check.specs.Channels.{AssignedChannel, channels_of, element_number, is_channel_of, is_element, is_element_of, is_on, variables_before}
use Rattle.snl_check.specs.Numbered.{Adds, Numbered, element_in, is_key_of, same_key, same_which}

-- the table is read by the test that the code derives
which_is : (a b : Which) → which_eq.eq-value.it a b ≡ same_which a b
which_is which.Any which.Any = refl
which_is which.Any (which.Element b) = refl
which_is (which.Element a) which.Any = refl
which_is (which.Element a) (which.Element b) = refl

key_is : (a b : ElementKey) → key_eq.eq-value.it a b ≡ same_key a b
key_is a b = ap (λ e. nat_eq a.variable b.variable && e) (which_is a.which b.which)

which_true : (a b : Which) → same_which a b ≡ true → a ≡ b
which_true which.Any which.Any h = refl
which_true which.Any (which.Element b) h = absurd (true≢false (sym h))
which_true (which.Element a) which.Any h = absurd (true≢false (sym h))
which_true (which.Element a) (which.Element b) h = ap which.Element ((Decides-eqb a b).0 h)

key_true : (a b : ElementKey) → same_key a b ≡ true → a ≡ b
key_true a b h =
    let t = and_parts (nat_eq a.variable b.variable) (same_which a.which b.which) h in
    let by_variable : a ≡ record a { variable = b.variable } = ap (λ v. record a { variable = v }) ((Decides-eqb a.variable b.variable).0 t.0) in
    by_variable ∙ ap (λ e. record b { which = e }) (which_true a.which b.which t.1)

lookup_is : (m : ElementKey) (held : List (ElementKey × ℕ)) → lookup (key_eq.eq-value.it m) held ≡ lookup (same_key m) held
lookup_is m [] = refl
lookup_is m (e ∷ es) =
    ap (λ b. cond b (Some e.1) (lookup (key_eq.eq-value.it m) es)) (key_is m e.0) ∙ ap (cond (same_key m e.0) (Some e.1)) (lookup_is m es)

or_known : (o p : Option ℕ) → is_some o ≡ true → option_or o p ≡ o
or_known None p h = absurd (true≢false (sym h))
or_known (Some k) p h = refl

-- what is known of a key is known of an equal one
known_same : (one q : ElementKey) (held : List (ElementKey × ℕ)) (b : Bool) → is_some (lookup (key_eq.eq-value.it one) held) ≡ b → same_key one q ≡ true
    → is_some (lookup (same_key q) held) ≡ b
known_same one q held b h t = ap (λ c. is_some (lookup (same_key c) held)) (sym (key_true one q t)) ∙ ap is_some (sym (lookup_is one held)) ∙ h

-- a key that no channel has had yet
adds_new : (one : ElementKey) (number : ℕ) (before after : List (ElementKey × ℕ)) → is_some (lookup (key_eq.eq-value.it one) before) ≡ false
    → ((q : ElementKey) → lookup (key_eq.eq-value.it q) after ≡ cond (key_eq.eq-value.it one q) (Some number) (lookup (key_eq.eq-value.it q) before))
    → Adds before after (same_key one) number
adds_new one number before after absent put =
    record {
      each = λ q.
          sym (lookup_is q after) ∙ put q ∙ ap (λ b. cond b (Some number) (lookup (key_eq.eq-value.it q) before)) (key_is one q)
          ∙ ap (cond (same_key one q) (Some number)) (lookup_is q before) ∙ by q (same_key one q) (known_same one q before false absent);
    }
  where
    by : (q : ElementKey) (b : Bool) → (b ≡ true → is_some (lookup (same_key q) before) ≡ false)
        → cond b (Some number) (lookup (same_key q) before) ≡ option_or (lookup (same_key q) before) (if b then Some number else None)
    by q true h = sym (none_or (lookup (same_key q) before) (Some number) (h refl))
    by q false h = sym (or_none (lookup (same_key q) before))

-- a key that an earlier channel has
adds_known : (one : ElementKey) (number : ℕ) (held : List (ElementKey × ℕ)) → is_some (lookup (key_eq.eq-value.it one) held) ≡ true → Adds held held (same_key one) number
adds_known one number held there = record { each = λ q. by q (same_key one q) (known_same one q held true there) }
  where
    by : (q : ElementKey) (b : Bool) → (b ≡ true → is_some (lookup (same_key q) held) ≡ true)
        → lookup (same_key q) held ≡ option_or (lookup (same_key q) held) (if b then Some number else None)
    by q true h = sym (or_known (lookup (same_key q) held) (Some number) (h refl))
    by q false h = sym (or_none (lookup (same_key q) held))

pub adds_first : (one : ElementKey) (number : ℕ) (before after : List (ElementKey × ℕ)) (seen : Bool) → seen ≡ is_some (lookup (key_eq.eq-value.it one) before)
    → (seen ≡ true → after ≡ before)
    → (seen ≡ false → (q : ElementKey) → lookup (key_eq.eq-value.it q) after ≡ cond (key_eq.eq-value.it one q) (Some number) (lookup (key_eq.eq-value.it q) before))
    → Adds before after (same_key one) number
adds_first one number before after true seen stays put = subst (λ held. Adds before held (same_key one) number) (sym (stays refl)) (adds_known one number before (sym seen))
adds_first one number before after false seen stays put = adds_new one number before after (sym seen) (put refl)

-- a channel of the whole variable has no key
pub adds_none : (held : List (ElementKey × ℕ)) (has : ElementKey → Bool) (number : ℕ) → ((k : ElementKey) → has k ≡ false) → Adds held held has number
adds_none held has number h =
    record { each = λ k. sym (ap (λ b. option_or (lookup (same_key k) held) (if b then Some number else None)) (h k) ∙ or_none (lookup (same_key k) held)) }

-- one that has the keys of both tests
pub adds_both : (before between after : List (ElementKey × ℕ)) (p q has : ElementKey → Bool) (number : ℕ) → ((k : ElementKey) → (p k || q k) ≡ has k)
    → Adds before between p number → Adds between after q number → Adds before after has number
adds_both before between after p q has number is a b =
    record {
      each = λ k.
          b.each k ∙ ap (λ o. option_or o (if q k then Some number else None)) (a.each k) ∙ by (lookup (same_key k) before) (p k) (q k)
          ∙ ap (λ c. option_or (lookup (same_key k) before) (if c then Some number else None)) (is k);
    }
  where
    by : (o : Option ℕ) (x y : Bool)
        → option_or (option_or o (if x then Some number else None)) (if y then Some number else None) ≡ option_or o (if (x || y) then Some number else None)
    by (Some k) x y = refl
    by None true true = refl
    by None true false = refl
    by None false true = refl
    by None false false = refl

-- the table with one more channel
pub numbered_more : (cs : List AssignedChannel) (c : AssignedChannel) (before after : List (ElementKey × ℕ)) (number : ℕ) → number ≡ length cs
    → Numbered before cs → Adds before after (is_key_of c) number → Numbered after (cs ++ c ∷ [])
numbered_more cs c before after number last f a =
    record {
      each = λ k.
          a.each k ∙ ap (λ o. option_or o (if is_key_of c k then Some number else None)) (f.each k)
          ∙ ap (λ n. option_or (element_number cs k.variable (element_in k.which)) (if is_key_of c k then Some n else None)) last
          ∙ sym (position_push (is_element_of k.variable (element_in k.which)) cs c);
    }

-- the keys of a channel of an element
pub keys_of_element : (c : AssignedChannel) (e : ℕ) (any one : ElementKey) → c.element ≡ Some e
    → any ≡ record { variable = c.variable; which = which.Any } → one ≡ record { variable = c.variable; which = which.Element e }
    → (k : ElementKey) → (same_key any k || same_key one k) ≡ is_key_of c k
keys_of_element c e any one is first second k =
    ap (λ a. same_key a k || same_key one k) first
    ∙ ap (λ a. same_key (record { variable = c.variable; which = which.Any }) k || same_key a k) second
    ∙ by (nat_eq c.variable k.variable) k.which
    ∙ ap (λ o. is_on k.variable c && is_element (element_in k.which) o) (sym is)
  where
    by : (b : Bool) (w : Which) → ((b && same_which which.Any w) || (b && same_which (which.Element e) w)) ≡ (b && is_element (element_in w) (Some e))
    by true which.Any = refl
    by false which.Any = refl
    by true (which.Element x) = refl
    by false (which.Element x) = refl

-- and one of the whole variable has none
pub no_keys : (c : AssignedChannel) → c.element ≡ None → (k : ElementKey) → is_key_of c k ≡ false
no_keys c is k = ap (λ o. is_on k.variable c && is_element (element_in k.which) o) is ∙ by (is_on k.variable c) k.which
  where
    by : (b : Bool) (w : Which) → (b && is_element (element_in w) None) ≡ false
    by true which.Any = refl
    by false which.Any = refl
    by true (which.Element x) = refl
    by false (which.Element x) = refl

-- one more channel is a further one of its variable
get_front : (cs : List AssignedChannel) (c : AssignedChannel) (n : ℕ) → n < length cs → slice_get (cs ++ c ∷ []) n ≡ slice_get cs n
get_front [] c n h = absurd (omega (arith, h))
get_front (x ∷ cs) c zero h = refl
get_front (x ∷ cs) c (suc n) h = get_front cs c n (omega (arith, h))

get_last : (cs : List AssignedChannel) (c : AssignedChannel) → slice_get (cs ++ c ∷ []) (length cs) ≡ Some c
get_last [] c = refl
get_last (x ∷ cs) c = get_last cs c

count_more : (cs : List AssignedChannel) (c : AssignedChannel) → length (cs ++ c ∷ []) ≡ suc (length cs)
count_more cs c = omega (arith, length-append cs (c ∷ []))

channels_more : (cs : List AssignedChannel) (c : AssignedChannel) (v : ℕ) → channels_of (cs ++ c ∷ []) v ≡ channels_of cs v ++ (if is_on v c then length cs ∷ [] else [])
channels_more cs c v =
    ap (all_below (is_channel_of (cs ++ c ∷ []) v)) (count_more cs c)
    ∙ ap (λ l. l ++ (if is_channel_of (cs ++ c ∷ []) v (length cs) then length cs ∷ [] else []))
    (all_below_same (is_channel_of (cs ++ c ∷ []) v) (is_channel_of cs v) (length cs) (λ j l. ap (λ o. option_map_or (is_on v) o false) (get_front cs c j l)))
    ∙ ap (λ o. channels_of cs v ++ (if option_map_or (is_on v) o false then length cs ∷ [] else [])) (get_last cs c)

other_variable : (c : AssignedChannel) (v : ℕ) → (c.variable ≡ v → ⊥) → is_on v c ≡ false
other_variable c v ne = false_from_ne_true (is_on v c) (λ h. ne ((Decides-eqb c.variable v).0 h))

channels_other : (cs : List AssignedChannel) (c : AssignedChannel) (v : ℕ) → (c.variable ≡ v → ⊥) → channels_of (cs ++ c ∷ []) v ≡ channels_of cs v
channels_other cs c v ne = channels_more cs c v ∙ ap (λ b. channels_of cs v ++ (if b then length cs ∷ [] else [])) (other_variable c v ne) ∙ append-nil (channels_of cs v)

channels_own : (cs : List AssignedChannel) (c : AssignedChannel) → channels_of (cs ++ c ∷ []) c.variable ≡ channels_of cs c.variable ++ length cs ∷ []
channels_own cs c = channels_more cs c c.variable ∙ ap (λ b. channels_of cs c.variable ++ (if b then length cs ∷ [] else [])) (eq-eqb c.variable c.variable refl)

-- a declaration that is none of these
pub lists_same : (cs : List AssignedChannel) (c : AssignedChannel) (n : ℕ) → n ≤ c.variable → variables_before (cs ++ c ∷ []) n ≡ variables_before cs n
lists_same cs c zero h = refl
lists_same cs c (suc n) h =
    ap (λ l. l ++ channels_of (cs ++ c ∷ []) n ∷ []) (lists_same cs c n (omega (arith, h)))
    ∙ ap (λ l. variables_before cs n ++ l ∷ []) (channels_other cs c n (λ e. omega (arith, e, h)))

-- and one that is
pub lists_more : (cs : List AssignedChannel) (c : AssignedChannel) (n : ℕ) → c.variable < n →
    set (variables_before cs n) c.variable (channels_of cs c.variable ++ length cs ∷ []) ≡ variables_before (cs ++ c ∷ []) n
lists_more cs c zero h = absurd (omega (arith, h))
lists_more cs c (suc n) h =
    elim (cases_lt c.variable n) [
      | inl l ↦
          set-append_left (variables_before cs n) (channels_of cs n ∷ []) c.variable _ (omega (arith, l, lists_count cs n))
          ∙ ap (λ l. l ++ channels_of cs n ∷ []) (lists_more cs c n l)
          ∙ ap (λ l. variables_before (cs ++ c ∷ []) n ++ l ∷ []) (sym (channels_other cs c n (λ e. omega (arith, e, l))))
      | inr m ↦
          let same : c.variable ≡ n = omega (arith, h, m) in
          let last : length (variables_before cs n) ≡ c.variable = omega (arith, same, lists_count cs n) in
          ap (λ k. set (variables_before cs n ++ channels_of cs n ∷ []) k (channels_of cs c.variable ++ length cs ∷ [])) (sym last)
          ∙ set-append_seam (variables_before cs n) (channels_of cs n) [] (channels_of cs c.variable ++ length cs ∷ [])
          ∙ ap (λ l. l ++ (channels_of cs c.variable ++ length cs ∷ []) ∷ []) (sym (lists_same cs c n (omega (arith, m))))
          ∙ ap (λ l. variables_before (cs ++ c ∷ []) n ++ l ∷ []) (sym (channels_own cs c) ∙ ap (channels_of (cs ++ c ∷ [])) same)
    ]
