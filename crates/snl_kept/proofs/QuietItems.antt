-- Items after which the rows of channels and of state sets stay: those that are kept in front of an
-- edit, and the quiet ones from there on.
use Rattle.std.proofs.Common.{◌≡◌, ℕ, zero, suc, ◌+◌, ◌-◌, ◌<◌, ◌≤◌, inl, inr, ◌⊎◌, Bool, true, false, List, [], ◌∷◌, ◌++◌, length, map, take, drop, slice_get, Option, None, Some, option_and_then, refl, sym, ap, ap₂, ◌∙◌, subst, append_assoc, arith, length-append, drop_of_length-le}
use Rattle.std.specs.List.{AllByRecursion}
use Rattle.std.proofs.lemmas.Bool.{cases_lt}
use Rattle.std.proofs.lemmas.List.{drop-map, drop_at, length-map, length-take-le, map-append, take-map, take_at}
use Rattle.snl_facts.specs.Lists.{drop_got}
use Rattle.snl_cut.specs.Cut.{Rises, ends_below, last_end, members, moved}
use Rattle.snl_cut.specs.CutLaws.{below_no, below_yes, length_members}
use Rattle.snl_lex.specs.Edit.{Edit}
use Rattle.snl_lex.specs.PieceList.{spelled, spelling}
use Rattle.snl_lex.specs.Pieces.{moved_piece, tokens_of}
use Rattle.snl_lex.specs.declared.piece.Class.{Class}
use Rattle.snl_lex.specs.declared.piece.Piece.{Piece}
use Rattle.snl_grammar.specs.Outcome.{parsed_by, parsed_in, sound_tree}
use Rattle.snl_grammar.specs.declared.tree.item.Item.{Item}
use Rattle.snl_items.specs.Changes.{made_in}
use Rattle.snl_items.specs.Items.{item_ends, spelled_items, spellings}
use Rattle.snl_scope.specs.Below.{all_below}
use Rattle.snl_scope.specs.Places.{is_set_begin}
use Rattle.snl_summary.specs.Summaries.Tokens.{token_bytes}
use Rattle.snl_summary.specs.declared.summary.Outline.{Outline}
use Rattle.snl_item_check.specs.Items.{outline_of_item, outlines_of}
use Rattle.snl_moved.specs.Quiet.{HasSameLine, IsQuietAfter, after_quiet, are_quiet, quiet_along, sets_before}
use Rattle.snl_check.specs.States.{set_row}
use Rattle.snl_check.specs.Tables.{tables_of}
use Rattle.snl_kept.specs.declared.entries.Entry.{Entry}
use Rattle.snl_kept.specs.declared.plan.Changes.{Changes}
use Rattle.snl_kept.specs.Checks.{outlines_in}
use Rattle.snl_kept.specs.Entries.{entries_of, entry_by}
use Rattle.snl_kept.specs.ItemPlan.{outlines_kept}
use Rattle.snl_kept.specs.Planned.{AreEntriesMade, IsChanged}
use Rattle.snl_kept.specs.Program.{ProgramItem, item_tokens, items_of, program_item, tree_in}
use Rattle.snl_kept.specs.Tables.{tables_in}
use Rattle.snl_kept.proofs.KeptChecks.{agreed}
use Rattle.snl_kept.proofs.MemberParts.{members_in_front, members_take, rises_take}
use Rattle.snl_kept.proofs.Members.{entries_count, entries_made}
use Rattle.snl_kept.proofs.SetsBegun.{fewer_below}
use Rattle.snl_kept.proofs.ShiftedText.{along}
use Rattle.snl_kept.proofs.SpelledItems.{spelled_text}

-- ---- items one after another

abbrev next_along : List Outline → Option Bool → Option Bool
next_along ss = option_and_then (λ next. quiet_along next ss)

chained : (xs ys : List Outline) (o : Option Bool) → ((b : Bool) → quiet_along b (xs ++ ys) ≡ next_along ys (quiet_along b xs)) → next_along (xs ++ ys) o ≡ next_along ys (next_along xs o)
chained xs ys None further = refl
chained xs ys (Some b) further = further b

quiet_append : (b : Bool) (xs ys : List Outline) → quiet_along b (xs ++ ys) ≡ next_along ys (quiet_along b xs)
quiet_append b [] ys = refl
quiet_append b (x ∷ xs) ys = chained xs ys (after_quiet b x) (λ k. quiet_append k xs ys)

-- the entry with a number, and those after it
pub got_here : (entries : List Entry) (n : ℕ) (e : Entry) → slice_get entries n ≡ Some e → drop n entries ≡ e ∷ drop (n + 1) entries
got_here entries n e got =
    let next : suc n ≡ n + 1 = omega arith in
    drop_got entries n e got ∙ ap (λ (k : ℕ). e ∷ drop k entries) next

-- there is one with each of their numbers
pub none_missing : (entries : List Entry) (n : ℕ) → n < length entries → slice_get entries n ≡ None → ⊥
none_missing [] n lt got = omega arith
none_missing (e ∷ es) zero lt got = cc
none_missing (e ∷ es) (suc n) lt got = none_missing es n (omega arith) got

-- an entry after some of them, and what is told of all of them
module _ (entries : List Entry) (n : ℕ) (b : Bool) (all : Option Bool) (so_far : quiet_along b (outlines_kept (drop n entries)) ≡ all) where
  by_next : (e : Entry) → drop n entries ≡ e ∷ drop (n + 1) entries → next_along (outlines_kept (drop (n + 1) entries)) (after_quiet b e.summary.outline) ≡ all
  by_next e here = sym (ap (λ (l : List Entry). quiet_along b (outlines_kept l)) here) ∙ so_far

  -- it is quiet
  pub next_quiet : (e : Entry) (next : Bool) → drop n entries ≡ e ∷ drop (n + 1) entries → after_quiet b e.summary.outline ≡ Some next → quiet_along next (outlines_kept (drop (n + 1) entries)) ≡ all
  next_quiet e next here told = sym (ap (next_along (outlines_kept (drop (n + 1) entries))) told) ∙ by_next e here

  -- it isn't
  pub next_noisy : (e : Entry) → drop n entries ≡ e ∷ drop (n + 1) entries → after_quiet b e.summary.outline ≡ None → None ≡ all
  next_noisy e here told = sym (ap (next_along (outlines_kept (drop (n + 1) entries))) told) ∙ by_next e here

  -- there is none
  pub all_quiet : length entries ≤ n → Some b ≡ all
  all_quiet past = sym (ap (λ (l : List Entry). quiet_along b (outlines_kept l)) (drop_of_length-le entries past)) ∙ so_far

-- what the kept items say from one number on
module _ (kept : (text : List ℕ) → outlines_kept (entries_of text) ≡ outlines_in text) where
  pub outlines_before : (old : List ℕ) (front : ℕ) (values : List Entry) → values ≡ entries_of old → outlines_kept (drop front values) ≡ drop front (outlines_in old)
  outlines_before old front values are =
      ap (λ (l : List Entry). outlines_kept (drop front l)) are ∙ sym (drop-map (λ (e : Entry). e.summary.outline) front (entries_of old)) ∙ ap (drop front) (kept old)

  -- and those that are made before them
  pub outlines_now : (old text : List ℕ) (front back n : ℕ) (made values : List Entry) → front ≤ length (item_ends old) → values ≡ entries_of old → n ≡ length values - back → AreEntriesMade old text front made back
      → drop front (outlines_in text) ≡ outlines_kept made ++ outlines_kept (drop n values)
  outlines_now old text front back n made values inside values_are n_is are =
      let olds : List Entry = entries_of old in
      let rest : List Entry = made ++ drop (length olds - back) olds in
      let many : length (take front olds) ≡ front = length-take-le front olds (omega (arith, inside, entries_count old)) in
      ap (drop front) (sym (kept text) ∙ ap outlines_kept are)
      ∙ drop-map (λ (e : Entry). e.summary.outline) front (take front olds ++ rest)
      ∙ ap outlines_kept (drop_at (take front olds) rest front many)
      ∙ map-append (λ (e : Entry). e.summary.outline) made (drop (length olds - back) olds)
      ∙ ap (λ (l : List Entry). outlines_kept made ++ outlines_kept (drop (length l - back) l)) (sym values_are)
      ∙ ap (λ (k : ℕ). outlines_kept made ++ outlines_kept (drop k values)) (sym n_is)

  pub quiet_now : (old text : List ℕ) (front back n : ℕ) (made values : List Entry) → front ≤ length (item_ends old) → values ≡ entries_of old → n ≡ length values - back → AreEntriesMade old text front made back
      → quiet_along false (drop front (outlines_in text)) ≡ option_and_then (λ next. quiet_along next (outlines_kept (drop n values))) (quiet_along false (outlines_kept made))
  quiet_now old text front back n made values inside values_are n_is are =
      ap (quiet_along false) (outlines_now old text front back n made values inside values_are n_is are) ∙ quiet_append false (outlines_kept made) (outlines_kept (drop n values))

-- ---- the items that are kept in front

-- the ends below a place end there at the latest
last_below : (place from : ℕ) (ends : List ℕ) → from ≤ place → last_end from (take (ends_below place ends) ends) ≤ place
last_below place from [] le = le
last_below place from (e ∷ es) le =
    elim (cases_lt e place) [
      | inl less ↦ subst (λ (n : ℕ). last_end from (take n (e ∷ es)) ≤ place) (sym (below_yes e place es less)) (last_below place e es (omega (arith, less)))
      | inr more ↦ subst (λ (n : ℕ). last_end from (take n (e ∷ es)) ≤ place) (sym (below_no e place es more)) le
    ]

-- as many items are made as what is kept of them
made_count : (old text : List ℕ) (front from : ℕ) (ends : List ℕ) (back : ℕ) (made : List Entry)
    → spelled_items text ≡ take front (spelled_items old) ++ (members (spellings text) from ends ++ drop (length (item_ends old) - back) (spelled_items old))
    → AreEntriesMade old text front made back → length made ≡ length ends
made_count old text front from ends back made items are =
    let olds : List Entry = entries_of old in
    let news : List (List (Class × List ℕ)) = members (spellings text) from ends in
    let rest : List Entry = drop (length olds - back) olds in
    let both : take front olds ++ (map entry_by news ++ rest) ≡ take front olds ++ (made ++ rest) = sym (entries_made old text front from ends back items) ∙ are in
    omega (
      arith,
      ap length both,
      length-append (take front olds) (map entry_by news ++ rest),
      length-append (map entry_by news) rest,
      length-append (take front olds) (made ++ rest),
      length-append made rest,
      length-map news entry_by,
      length_members (spellings text) from ends,
    )

module _ (e : Edit) (c : Changes) (changed : IsChanged e c) (made : List Entry) (are : AreEntriesMade e.old e.text c.items.kept_front made c.items.kept_back) (some : 0 < length made)
    -- what the laws of the layers below say
    (rises : Rises 0 (item_ends e.old))
    (tree_told : (text : List ℕ) (tokens : List Piece) → sound_tree (parsed_in text tokens) ≡ tree_in text tokens)
    (by_spelling : (text : List ℕ) (tokens : List Piece) → parsed_in text tokens ≡ parsed_by (spelled text tokens))
    (bytes_same : (text moved : List ℕ) (tokens shifted : List Piece) → spelled text tokens ≡ spelled moved shifted → token_bytes text tokens ≡ token_bytes moved shifted) where
  abbrev old : List ℕ
  old = e.old

  abbrev text : List ℕ
  text = e.text

  abbrev k : ℕ
  k = c.items.kept_front

  abbrev start : ℕ
  start = c.tokens.edit.start

  inside : k ≤ length (item_ends old)
  inside = omega (arith, changed.items.order)

  -- they end before the edit
  below : k ≡ ends_below start (item_ends old)
  below = by changed.items.before
    where
      by : (k ≡ ends_below start (item_ends old)) ⊎ ((k ≡ length (item_ends old)) × (c.items.made.items ≡ [])) → k ≡ ends_below start (item_ends old)
      by (inl h) = h
      by (inr h) =
          absurd (omega (
            arith,
            some,
            made_count old text k (last_end 0 (take k (item_ends old))) c.items.made.items c.items.kept_back made changed.items.items are,
            ap length h.1,
          ))

  pub up : last_end 0 (take k (item_ends old)) ≤ start
  up = subst (λ (n : ℕ). last_end 0 (take n (item_ends old)) ≤ start) (sym below) (last_below start 0 (item_ends old) (omega arith))

  front_ends : Rises 0 (take k (item_ends old))
  front_ends = rises_take 0 k (item_ends old) rises

  ends_same : take k (item_ends text) ≡ take k (item_ends old)
  ends_same =
      let later : List ℕ = moved c.tokens.edit.old_stop c.tokens.edit.new_stop (drop (length (item_ends old) - c.items.kept_back) (item_ends old)) in
      ap (take k) (changed.items.ends ∙ append_assoc (take k (item_ends old)) c.items.made.items later)
      ∙ take_at (take k (item_ends old)) (c.items.made.items ++ later) k (length-take-le k (item_ends old) inside)

  units_same : take start (tokens_of text) ≡ take start (tokens_of old)
  units_same =
      let within : start ≤ length (tokens_of old) = omega (arith, changed.tokens.of_spellings.old_order, changed.tokens.of_spellings.old_inside, length-map (tokens_of old) (spelling old)) in
      ap (take start) changed.tokens.tokens
      ∙ take_at (take start (tokens_of old)) (made_in e c.tokens.edit ++ map (moved_piece e.old_stop e.new_stop) (drop c.tokens.edit.old_stop (tokens_of old))) start
      (length-take-le start (tokens_of old) within)

  -- they have the tokens that they had
  tokens_same : take k (item_tokens text) ≡ take k (item_tokens old)
  unfolding item_tokens
  tokens_same =
      members_take (tokens_of text) 0 k (item_ends text)
      ∙ ap (members (tokens_of text) 0) ends_same
      ∙ sym (members_in_front (tokens_of text) start 0 (take k (item_ends old)) front_ends up)
      ∙ ap (λ (l : List Piece). members l 0 (take k (item_ends old))) units_same
      ∙ members_in_front (tokens_of old) start 0 (take k (item_ends old)) front_ends up
      ∙ sym (members_take (tokens_of old) 0 k (item_ends old))

  spelled_same : take k (spelled_items text) ≡ take k (spelled_items old)
  spelled_same =
      let olds : List (List (Class × List ℕ)) = spelled_items old in
      let made_so : List (List (Class × List ℕ)) = members (spellings text) (last_end 0 (take k (item_ends old))) c.items.made.items in
      ap (take k) changed.items.items
      ∙ take_at (take k olds) (made_so ++ drop (length (item_ends old) - c.items.kept_back) olds) k
      (length-take-le k olds (omega (arith, inside, length_members (spellings old) 0 (item_ends old))))

  -- and are spelled as they were
  alike : AllByRecursion (λ m. spelled text m ≡ spelled old m) (take k (item_tokens old))
  alike =
      agreed (spelled text) (spelled old) (take k (item_tokens old))
      (ap (map (spelled text)) (sym tokens_same)
      ∙ sym (take-map (spelled text) k (item_tokens text))
      ∙ ap (take k) (spelled_text text)
      ∙ spelled_same
      ∙ ap (take k) (sym (spelled_text old))
      ∙ take-map (spelled old) k (item_tokens old))

  one_same : (m : List Piece) → spelled text m ≡ spelled old m → program_item text m ≡ program_item old m
  one_same m same =
      let trees : tree_in text m ≡ tree_in old m = sym (tree_told text m) ∙ ap sound_tree (by_spelling text m ∙ ap parsed_by same ∙ sym (by_spelling old m)) ∙ tree_told old m in
      ap (λ (t : Option Item). let x : ProgramItem = record { tokens = m; tree = t } in x) trees

  all_same : (ms : List (List Piece)) → AllByRecursion (λ m. spelled text m ≡ spelled old m) ms → map (program_item text) ms ≡ map (program_item old) ms
  all_same [] h = refl
  all_same (m ∷ ms) h = ap₂ (λ (x : ProgramItem) (xs : List ProgramItem). x ∷ xs) (one_same m h.0) (all_same ms h.1)

  front_same : take k (items_of text) ≡ take k (items_of old)
  front_same =
      take-map (program_item text) k (item_tokens text)
      ∙ ap (map (program_item text)) tokens_same
      ∙ all_same (take k (item_tokens old)) alike
      ∙ sym (take-map (program_item old) k (item_tokens old))

  abbrev SameBytes : ProgramItem → Type 0
  SameBytes x = (m : ℕ) → token_bytes text x.tokens m ≡ token_bytes old x.tokens m

  bytes_along : (ms : List (List Piece)) → AllByRecursion (λ m. spelled text m ≡ spelled old m) ms → AllByRecursion (λ m. SameBytes (program_item old m)) ms
  bytes_along [] h = tt
  bytes_along (m ∷ ms) h = (λ n. ap (λ (f : ℕ → List ℕ). f n) (bytes_same text old m m h.0), bytes_along ms h.1)

  front_bytes : AllByRecursion SameBytes (take k (items_of old))
  front_bytes =
      subst (AllByRecursion SameBytes) (sym (take-map (program_item old) k (item_tokens old)))
      (along old SameBytes (take k (item_tokens old)) (bytes_along (take k (item_tokens old)) alike))

  -- the others are quiet, where what they say is
  quiet_items : (l : List ℕ) → are_quiet (drop k (outlines_in l)) ≡ true → are_quiet (outlines_of l (drop k (items_of l))) ≡ true
  quiet_items l quiet = ap are_quiet (sym (drop-map (outline_of_item l) k (items_of l))) ∙ quiet

  pub quiet_after : are_quiet (drop k (outlines_in old)) ≡ true → are_quiet (drop k (outlines_in text)) ≡ true → IsQuietAfter old text (items_of old) (items_of text) k
  quiet_after before now = record { front = front_same; bytes = front_bytes; quiet_before = quiet_items old before; quiet_now = quiet_items text now }

  -- so the rows of channels stay
  pub channels_kept : ((old text : List ℕ) (xs ys : List ProgramItem) (n : ℕ) → IsQuietAfter old text xs ys n → (tables_of text ys).channels ≡ (tables_of old xs).channels)
      → are_quiet (drop k (outlines_in old)) ≡ true → are_quiet (drop k (outlines_in text)) ≡ true → (tables_in text).channels ≡ (tables_in old).channels
  unfolding tables_in
  channels_kept stay before now = stay old text (items_of old) (items_of text) k (quiet_after before now)

  -- and those of the state sets that begin in front, but for the last
  items_count : length (items_of old) ≡ length (item_ends old)
  unfolding item_tokens
  items_count = length-map (item_tokens old) (program_item old) ∙ length_members (tokens_of old) 0 (item_ends old)

  pub sets_kept : ((old text : List ℕ) (xs ys : List ProgramItem) (n : ℕ) → n ≤ length xs → IsQuietAfter old text xs ys n → AllByRecursion (HasSameLine old text) (take n xs)
      → take (sets_before (outlines_of old xs) n) (tables_of text ys).sets ≡ take (sets_before (outlines_of old xs) n) (tables_of old xs).sets)
      → AllByRecursion (HasSameLine old text) (take k (items_of old)) → are_quiet (drop k (outlines_in old)) ≡ true → are_quiet (drop k (outlines_in text)) ≡ true
      → take (sets_before (outlines_in old) k) (tables_in text).sets ≡ take (sets_before (outlines_in old) k) (tables_in old).sets
  unfolding tables_in
  sets_kept stay lines before now =
      let within : k ≤ length (items_of old) = omega (arith, inside, items_count) in
      stay old text (items_of old) (items_of text) k within (quiet_after before now) lines

  -- there are as many
  pub few_begun : sets_before (outlines_in old) k ≤ length (tables_in old).sets
  unfolding tables_in
  few_begun =
      let ss = outlines_in old in
      let whole : k + (length ss - k) ≡ length ss = omega (arith, inside, items_count, length-map (items_of old) (outline_of_item old)) in
      omega (
        arith,
        fewer_below (is_set_begin ss) k (length ss - k),
        ap (λ n. length (all_below (is_set_begin ss) n)) whole,
        length-map (all_below (is_set_begin ss) (length ss)) (set_row old (items_of old) ss),
      )
