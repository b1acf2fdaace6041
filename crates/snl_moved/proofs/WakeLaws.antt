-- The entries of a row cover just what the uses in the conditions mean.
use Rattle.std.proofs.Common.{◌≡◌, ◌&&◌, ◌||◌, ◌<◌, ◌++◌, ◌∷◌, [], ℕ, zero, suc, Bool, true, false, List, length, nat_eq, nat_lt, get_or, Option, Some, None, inl, inr, refl, sym, ap, ◌∙◌, arith, if◌then◌else◌}
use Rattle.std.specs.List.{cons_option, filter_map, list_any, position}
use Rattle.std.specs.Option.{is_none, option_and_then, option_map, option_map_or, option_or}
use Rattle.std.proofs.lemmas.Bool.{cases_lt, eqb-true, false_from_ne_true}
use Rattle.std.proofs.lemmas.List.Quantifiers.{position-Some}
use Rattle.std.proofs.lemmas.Option.{slice_get_past}
use borrow.Author.Tests.{eq-eqb, le-ltb, lt-ltb}
use Rattle.snl_scope.specs.declared.names.namespaces.Namespace.TheVariants as namespace
use Rattle.snl_summary.specs.declared.summary.Outline.{Outline}
use Rattle.snl_scope.specs.Below.{all_below}
use Rattle.snl_scope.specs.Clauses.{resolve_in}
use Rattle.snl_scope.specs.Flags.{flag_number}
use Rattle.snl_scope.specs.Names.{Entry, entries, has_name, number_in, resolve}
use Rattle.snl_scope.specs.Places.{enclosing_set}
use Rattle.snl_walk.specs.Tokens.{token_bytes}
use Rattle.snl_tables.specs.declared.rows.WakeUp.TheVariants as wake
use Rattle.snl_walk.specs.declared.used.WakeUse.{WakeUse}
use Rattle.snl_check.specs.Channels.{AssignedChannel, assigned_channels, covers_elements, element_number, is_channel_of, is_on, variables_before}
use Rattle.snl_check.specs.Conditions.{by_flag, on_declaration, on_variable, uses_in, wake_up}
use Rattle.snl_item_check.specs.Items.{ProgramItem, outlines_of, tokens_in}
use Rattle.snl_check.specs.Tables.{variables_of}
use Rattle.snl_moved.specs.WakeSets.{HasChannels, HasFlags, channel_meant, covers_channel, covers_flag, declaration_of, is_number, means_channel, means_flag}
use Rattle.snl_check.specs.ChannelLaws.{list_at}

-- a test of what is kept is a test of what it was made from
any_kept : {A B : Type 0} (p : B → Bool) (f : A → Option B) (q : A → Bool) → ((a : A) → option_map_or p (f a) false ≡ q a) → (us : List A) → list_any p (filter_map f us) ≡ list_any q us
any_kept p f q h [] = refl
any_kept {B = B} p f q h (a ∷ us) = by (f a) ∙ ap (λ b. b || list_any p (filter_map f us)) (h a) ∙ ap (λ b. q a || b) (any_kept p f q h us)
  where
    by : (o : Option B) → list_any p (cons_option o (filter_map f us)) ≡ (option_map_or p o false || list_any p (filter_map f us))
    by None = refl
    by (Some b) = refl

-- a number is among those below m that pass a test if it does
among_below : (p : ℕ → Bool) (n m : ℕ) → list_any (nat_eq n) (all_below p m) ≡ (nat_lt n m && p n)
among_below p n zero = sym (ap (λ b. b && p n) (le-ltb n 0 (omega arith)))
among_below p n (suc m) =
    any_join (all_below p m) (p m) ∙ ap (λ b. b || (p m && nat_eq n m)) (among_below p n m)
    ∙ elim (cases_lt n m) [
      | inl l ↦
          ap (λ b. (b && p n) || (p m && nat_eq n m)) (lt-ltb n m l) ∙ ap (λ b. p n || (p m && b)) (other l) ∙ or_and_false (p n) (p m)
          ∙ sym (ap (λ b. b && p n) (lt-ltb n (suc m) (omega arith)))
      | inr past ↦
          ap (λ b. (b && p n) || (p m && nat_eq n m)) (le-ltb n m past)
          ∙ elim (cases_lt m n) [
            | inl far ↦ ap (λ b. p m && b) (beyond far) ∙ and_no (p m) ∙ sym (ap (λ b. b && p n) (le-ltb n (suc m) (omega arith)))
            | inr near ↦
                let same : n ≡ m = omega (arith, past, near) in
                ap (λ k. p k && nat_eq n k) (sym same) ∙ ap (λ b. p n && b) (eq-eqb n n refl) ∙ and_yes (p n) ∙ sym (ap (λ b. b && p n) (lt-ltb n (suc m) (omega (arith, same))))
          ]
    ]
  where
    and_no : (b : Bool) → (b && false) ≡ false
    and_no true = refl
    and_no false = refl

    and_yes : (b : Bool) → (b && true) ≡ b
    and_yes true = refl
    and_yes false = refl

    or_and_false : (a b : Bool) → (a || (b && false)) ≡ a
    or_and_false true b = refl
    or_and_false false b = and_no b

    other : n < m → nat_eq n m ≡ false
    other l = false_from_ne_true (nat_eq n m) (λ h. let same : n ≡ m = eqb-true n m h in omega (arith, same, l))

    beyond : m < n → nat_eq n m ≡ false
    beyond l = false_from_ne_true (nat_eq n m) (λ h. let same : n ≡ m = eqb-true n m h in omega (arith, same, l))

    or_no : (b : Bool) → (b || false) ≡ b
    or_no true = refl
    or_no false = refl

    grouped : (a b c : Bool) → (a || (b || c)) ≡ ((a || b) || c)
    grouped true b c = refl
    grouped false b c = refl

    any_join : (xs : List ℕ) (b : Bool) → list_any (nat_eq n) (xs ++ (if b then m ∷ [] else [])) ≡ (list_any (nat_eq n) xs || (b && nat_eq n m))
    any_join [] true = or_no (nat_eq n m)
    any_join [] false = refl
    any_join (x ∷ xs) b = ap (λ c. nat_eq n x || c) (any_join xs b) ∙ grouped (nat_eq n x) (list_any (nat_eq n) xs) (b && nat_eq n m)

-- a declaration that a name resolves to has a number
found_entry : (es : List Entry) (p : Entry → Bool) (v : ℕ) → position p es ≡ Some v → v < length es
found_entry [] p v h = absurd cc
found_entry (e ∷ es) p v h = (position-Some p (e ∷ es) v e h).0

either_below : (n : ℕ) (a b : Option ℕ) (v : ℕ) → ((k : ℕ) → a ≡ Some k → k < n) → ((k : ℕ) → b ≡ Some k → k < n) → option_or a b ≡ Some v → v < n
either_below n None b v f g h = g v h
either_below n (Some k) b v f g h = f v h

resolved_below : (ss : List Outline) (item : ℕ) (name : List ℕ) (v : ℕ) → resolve_in ss item name ≡ Some v → v < length (entries ss)
resolved_below ss item name v h =
    either_below (length (entries ss)) (number_in (entries ss) (namespace.State item) name) (resolve (entries ss) (enclosing_set ss item) name) v
    (λ k. found_entry (entries ss) (has_name (namespace.State item) name) k) (outside (enclosing_set ss item)) h
  where
    outside : (o : Option ℕ) (k : ℕ) → resolve (entries ss) o name ≡ Some k → k < length (entries ss)
    outside None k e = found_entry (entries ss) (has_name namespace.Program name) k e
    outside (Some set) k e =
        either_below (length (entries ss)) (number_in (entries ss) (namespace.StateSet set) name) (number_in (entries ss) namespace.Program name) k
        (λ j. found_entry (entries ss) (has_name (namespace.StateSet set) name) j) (λ j. found_entry (entries ss) (has_name namespace.Program name) j) e

-- what the entry of a use covers of flags
module _ (cs : List AssignedChannel) (n v : ℕ) where
  no_flag : (b : Bool) (m : Option ℕ) → option_map_or (covers_flag n) (if b then option_map wake.Channel m else Some (wake.Variable v)) false ≡ false
  no_flag true None = refl
  no_flag true (Some c) = refl
  no_flag false m = refl

  flag_of_variable : (o : Option ℕ) → option_map_or (covers_flag n) (on_variable cs o v) false ≡ false
  flag_of_variable None = refl
  flag_of_variable (Some e) = no_flag (covers_elements cs v) (element_number cs v (Some e))

  flag_of_declaration : (subscript o : Option ℕ) → option_map_or (covers_flag n) (by_flag o (on_variable cs subscript v)) false ≡ is_number n o
  flag_of_declaration subscript None = flag_of_variable subscript
  flag_of_declaration subscript (Some flag) = refl

-- and of channels
module _ (variables : List (List ℕ)) (cs : List AssignedChannel) (n v : ℕ) (listed : list_any (nat_eq n) (get_or variables v []) ≡ is_channel_of cs v n) where
  channel_of_elements : (b : Bool) (m : Option ℕ) → option_map_or (covers_channel variables n) (if b then option_map wake.Channel m else Some (wake.Variable v)) false
      ≡ (if b then is_number n m else is_channel_of cs v n)
  channel_of_elements true None = refl
  channel_of_elements true (Some c) = refl
  channel_of_elements false m = listed

  channel_of_variable : (o : Option ℕ) → option_map_or (covers_channel variables n) (on_variable cs o v) false ≡ channel_meant cs o v n
  channel_of_variable None = listed
  channel_of_variable (Some e) = channel_of_elements (covers_elements cs v) (element_number cs v (Some e))

  channel_of_declaration : (subscript o : Option ℕ) → option_map_or (covers_channel variables n) (by_flag o (on_variable cs subscript v)) false ≡ (is_none o && channel_meant cs subscript v n)
  channel_of_declaration subscript None = channel_of_variable subscript
  channel_of_declaration subscript (Some flag) = refl

-- the list of a declaration has the channels that are its own
listed_own : (cs : List AssignedChannel) (count n v : ℕ) → v < count → list_any (nat_eq n) (get_or (variables_before cs count) v []) ≡ is_channel_of cs v n
listed_own cs count n v l =
    ap (list_any (nat_eq n)) (list_at cs count v [] l) ∙ among_below (is_channel_of cs v) n (length cs)
    ∙ elim (cases_lt n (length cs)) [
      | inl inside ↦ ap (λ b. b && is_channel_of cs v n) (lt-ltb n (length cs) inside)
      | inr past ↦ ap (λ b. b && is_channel_of cs v n) (le-ltb n (length cs) past) ∙ sym (ap (λ o. option_map_or (is_on v) o false) (slice_get_past cs n past))
    ]

module _ (text : List ℕ) (xs : List ProgramItem) (ss : List Outline) (cs : List AssignedChannel) (item n : ℕ) where
  flag_meant : (u : WakeUse) → option_map_or (covers_flag n) (wake_up text xs ss cs item u) false ≡ means_flag text xs ss item n u
  flag_meant u = by (declaration_of text xs ss item u)
    where
      by : (o : Option ℕ) → option_map_or (covers_flag n) (option_and_then (on_declaration ss cs u.subscript) o) false ≡ option_map_or (λ v. is_number n (flag_number ss v)) o false
      by None = refl
      by (Some v) = flag_of_declaration cs n v u.subscript (flag_number ss v)

  channel_covered : (u : WakeUse) → option_map_or (covers_channel (variables_before cs (length (entries ss))) n) (wake_up text xs ss cs item u) false
      ≡ option_map_or (λ v. is_none (flag_number ss v) && channel_meant cs u.subscript v n) (declaration_of text xs ss item u) false
  channel_covered u = by (declaration_of text xs ss item u) (resolved_below ss item (token_bytes text (tokens_in xs item) u.token))
    where
      by : (o : Option ℕ) → ((v : ℕ) → o ≡ Some v → v < length (entries ss))
          → option_map_or (covers_channel (variables_before cs (length (entries ss))) n) (option_and_then (on_declaration ss cs u.subscript) o) false
          ≡ option_map_or (λ v. is_none (flag_number ss v) && channel_meant cs u.subscript v n) o false
      by None h = refl
      by (Some v) h =
          channel_of_declaration (variables_before cs (length (entries ss))) cs n v (listed_own cs (length (entries ss)) n v (h v refl)) u.subscript (flag_number ss v)

pub has_flags : (text : List ℕ) (xs : List ProgramItem) (item : ℕ) → HasFlags text xs item
has_flags text xs item = λ n.
    let ss = outlines_of text xs in
    let cs = assigned_channels text xs ss in
    any_kept (covers_flag n) (wake_up text xs ss cs item) (means_flag text xs ss item n) (flag_meant text xs ss cs item n) (uses_in text xs item)

pub has_channels : (text : List ℕ) (xs : List ProgramItem) (item : ℕ) → HasChannels text xs item
has_channels text xs item = λ n.
    let ss = outlines_of text xs in
    let cs = assigned_channels text xs ss in
    any_kept (covers_channel (variables_of text xs ss) n) (wake_up text xs ss cs item) (means_channel text xs ss item n) (channel_covered text xs ss cs item n) (uses_in text xs item)
