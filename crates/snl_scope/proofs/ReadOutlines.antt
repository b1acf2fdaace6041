-- Outlines in flat lists, as they are read: how many there are, and what is before one of them and up to its end.
use Rattle.std.proofs.Common.{◌≡◌, ℕ, suc, ◌+◌, ◌≤◌, ◌<◌, List, [], ◌∷◌, ◌++◌, length, get_or, map, take, drop, add-one, IfSome, Some, slice_get, sym, ap, ◌∙◌, arith}
use Rattle.snl_facts.specs.Each.{each_drop, each_got, each_take}
use Rattle.snl_scope.specs.declared.outlines.cursor.Cursor.{Cursor}
use Rattle.snl_scope.specs.declared.outlines.flat.FlatClause.{FlatClause}
use Rattle.snl_scope.specs.declared.outlines.flat.FlatDeclared.{FlatDeclared}
use Rattle.snl_scope.specs.declared.outlines.flat.FlatOutline.{FlatOutline}
use Rattle.snl_scope.specs.OutlineList.{AreFlat, AreNumbered, IsAt, IsClauseNumbered, NamedOutlines, clauses_before, clauses_in, declares_before, declares_in, outline_by, outlines_by, total}
use Rattle.snl_scope.proofs.JoinedOutlines.{AreTold}
use Rattle.snl_scope.proofs.OutlineLists.{clauses_told, declares_told, outline_at, outlines_length, total_more, total_within}
use Rattle.snl_scope.proofs.Searches.{read-at}

-- With so many counted before an element, how many there are up to its end, and that all have no less.
pub record CountsAt {A : Type 0} (f : A → ℕ) (xs : List A) (i n : ℕ) (x : A) : Type 0 where
  pub before : n ≡ total (map f (take i xs))
  pub after : n + f x ≡ total (map f (take (i + 1) xs))
  pub within : n + f x ≤ total (map f xs)

pub counts_at : {A : Type 0} (f : A → ℕ) {xs : List A} {i n : ℕ} {x : A} → slice_get xs i ≡ Some x → n ≡ total (map f (take i xs)) → CountsAt f xs i n x
counts_at f {xs} {i} {n} {x} at before =
    let more = total_more f i x xs at in
    let few = total_within f (suc i) xs in
    record {
      before = before;
      after = ap (λ k. k + f x) before ∙ sym more ∙ ap (λ k. total (map f (take k xs))) (sym (add-one i));
      within = omega (arith, before, more, few);
    }

-- where the declarations and clauses of an item start, by heads that are those of the lists
module _ {names : List (List ℕ)} {hs : List FlatOutline} {ds : List FlatDeclared} {cs : List FlatClause} (flat : AreFlat names hs ds cs)
    (item : ℕ) {starts : ℕ × ℕ} {heads : List FlatOutline} (are : starts ≡ (declares_in (take item heads), clauses_in (take item heads))) (same : heads ≡ hs) where
  pub declares_start : starts.0 ≡ declares_in (take item hs)
  declares_start = ap (λ s. s.0) are ∙ ap (λ l. declares_in (take item l)) same

  pub clauses_start : starts.1 ≡ clauses_in (take item hs)
  clauses_start = ap (λ s. s.1) are ∙ ap (λ l. clauses_in (take item l)) same

  pub declares_fit : {list : List FlatDeclared} → list ≡ ds → starts.0 ≤ length list
  declares_fit whole = omega (arith, declares_start, total_within (λ h. h.declares) item hs, flat.declares, ap length whole)

  pub clauses_fit : {list : List FlatClause} → list ≡ cs → starts.1 ≤ length list
  clauses_fit whole = omega (arith, clauses_start, total_within (λ h. h.clauses) item hs, flat.clauses, ap length whole)

-- a part of a list is put after another list, by what these are known as
pub put_part : {A : Type 0} (part : ℕ → List A → List A) {new old gs from xs : List A} {k n : ℕ}
    → new ≡ old ++ part k from → old ≡ gs → k ≡ n → from ≡ xs → new ≡ gs ++ part n xs
put_part part put old count from = put ∙ (λ j. old j ++ part (count j) (from j))

-- A walk is at an outline that has this head.
pub record ReadsAt (hs : List FlatOutline) (at : Cursor) (h : FlatOutline) : Type 0 where
  pub inside : at.item < length hs
  pub head : slice_get hs at.item ≡ Some h
  pub declares : CountsAt (λ h. h.declares) hs at.item at.declares h
  pub clauses : CountsAt (λ h. h.clauses) hs at.item at.clauses h

-- What flat lists are seen as.
abbrev pub seen_as : List (List ℕ) → List FlatOutline → List FlatDeclared → List FlatClause → NamedOutlines
seen_as names hs ds cs = record { names = names; outlines = outlines_by names hs ds cs }

module _ {names : List (List ℕ)} {hs : List FlatOutline} {ds : List FlatDeclared} {cs : List FlatClause} {v : NamedOutlines}
    (flat : AreFlat names hs ds cs) (seen : seen_as names hs ds cs ≡ v) where
  pub seen_told : AreTold names hs ds cs v.outlines
  seen_told = record { flat = flat; outlines = ap (λ v. v.outlines) seen }

  pub heads_seen : length hs ≡ length v.outlines
  heads_seen = rw (← seen) (sym (outlines_length names hs ds cs))

  pub heads_reach : {item : ℕ} {heads : List FlatOutline} → item ≤ length v.outlines → heads ≡ hs → item ≤ length heads
  heads_reach inside same = omega (arith, inside, heads_seen, ap length same)

  pub head_seen : {h : FlatOutline} {item : ℕ} → item < length v.outlines → h ≡ get_or hs item h → slice_get hs item ≡ Some h
  head_seen {h} {item} inside read = read-at hs item h (omega (arith, inside, heads_seen)) read

  pub outline_seen : (item : ℕ) {h : FlatOutline} → slice_get hs item ≡ Some h
      → slice_get v.outlines item ≡ Some (outline_by v.names h (take h.declares (drop (declares_in (take item hs)) ds)) (take h.clauses (drop (clauses_in (take item hs)) cs)))
  outline_seen item {h} at = rw (← seen) (outline_at names hs item ds cs h at)

  declares_seen : (item : ℕ) → declares_before v.outlines item ≡ declares_in (take item hs)
  declares_seen item = rw (← seen) (declares_told names hs item ds cs flat.declares)

  clauses_seen : (item : ℕ) → clauses_before v.outlines item ≡ clauses_in (take item hs)
  clauses_seen item = rw (← seen) (clauses_told names hs item ds cs flat.clauses)

  pub reads_at : {at : Cursor} {h : FlatOutline} → at.item < length v.outlines → IsAt v.outlines at → h ≡ get_or hs at.item h → ReadsAt hs at h
  reads_at {at} {h} inside is read =
      let head = head_seen inside read in
      record {
        inside = omega (arith, inside, heads_seen);
        head = head;
        declares = counts_at (λ h. h.declares) head (is.declares ∙ declares_seen at.item);
        clauses = counts_at (λ h. h.clauses) head (is.clauses ∙ clauses_seen at.item);
      }

  module _ {at : Cursor} {h : FlatOutline} (reads : ReadsAt hs at h) where
    pub next_at : IsAt v.outlines (record { item = at.item + 1; declares = at.declares + h.declares; clauses = at.clauses + h.clauses })
    next_at = record {
      declares = reads.declares.after ∙ sym (declares_seen (at.item + 1));
      clauses = reads.clauses.after ∙ sym (clauses_seen (at.item + 1));
    }

    -- the parts of the lists that are told with the head
    module _ {own-declares list : List FlatDeclared} {own-clauses list-2 : List FlatClause}
        (declares : own-declares ≡ take h.declares (drop at.declares list)) (same : list ≡ ds)
        (clauses : own-clauses ≡ take h.clauses (drop at.clauses list-2)) (same-2 : list-2 ≡ cs) where
      pub outline_told : slice_get v.outlines at.item ≡ Some (outline_by v.names h own-declares own-clauses)
      outline_told = rw (declares, same, clauses, same-2, reads.declares.before, reads.clauses.before) (outline_seen at.item reads.head)

      pub numbered_told : AreNumbered v.names (h ∷ []) own-declares own-clauses
      numbered_told = rw (declares, same, clauses, same-2, ← seen) (record {
        seconds = (each_got (λ h. IfSome h.second (λ n. n < length names)) hs at.item h flat.numbered.seconds reads.head, tt);
        declared = each_take (λ d. d.name < length names) h.declares (drop at.declares ds) (each_drop (λ d. d.name < length names) at.declares ds flat.numbered.declared);
        clauses = each_take (IsClauseNumbered names) h.clauses (drop at.clauses cs) (each_drop (IsClauseNumbered names) at.clauses cs flat.numbered.clauses);
      })
