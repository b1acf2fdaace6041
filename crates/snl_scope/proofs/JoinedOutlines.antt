-- Flat lists that tell outlines: by more names, one after another, and parts of them.
use Rattle.std.proofs.Common.{◌≡◌, ℕ, ◌≤◌, ◌<◌, List, ◌++◌, length, map, take, drop, IfSome, sym, ap, ap₂, ◌∙◌}
use Rattle.std.specs.List.{AllByRecursion as Each}
use Rattle.std.proofs.Math.Seq.{drop-append_seam, take-append_seam}
use Rattle.std.proofs.lemmas.List.{length-take-le, take-append-drop}
use Rattle.snl_facts.specs.Each.{each_append, each_drop, each_take}
use Rattle.snl_scope.specs.declared.outlines.flat.FlatClause.{FlatClause}
use Rattle.snl_scope.specs.declared.outlines.flat.FlatDeclared.{FlatDeclared}
use Rattle.snl_scope.specs.declared.outlines.flat.FlatOutline.{FlatOutline}
use Rattle.snl_scope.specs.declared.outlines.making.Making.{Making}
use Rattle.snl_summary.specs.declared.summary.Outline.{Outline}
use Rattle.snl_scope.specs.OutlineList.{AreFlat, Extends, IsClauseNumbered, Tells, clauses_in, declares_in, outlines_by, total}
use Rattle.snl_scope.proofs.OutlineLists.{back_counts, front_counts, joined_counts, numbered_stays, outlines_append, outlines_length, outlines_same}

-- Flat lists tell outlines.
pub record AreTold (names : List (List ℕ)) (hs : List FlatOutline) (ds : List FlatDeclared) (cs : List FlatClause) (ss : List Outline) : Type 0 where
  pub flat : AreFlat names hs ds cs
  pub outlines : outlines_by names hs ds cs ≡ ss

pub lists_told : {m : Making} {ss : List Outline} → Tells m ss → AreTold m.names m.heads.items m.declares.items m.clauses.items ss
lists_told t = record { flat = t.flat; outlines = t.outlines }

-- lists that are being made tell what the same lists tell
pub tells_same : {names : List (List ℕ)} {hs : List FlatOutline} {ds : List FlatDeclared} {cs : List FlatClause} {ss : List Outline} {m : Making}
    → m.names ≡ names → m.heads.items ≡ hs → m.declares.items ≡ ds → m.clauses.items ≡ cs → AreTold names hs ds cs ss → Tells m ss
tells_same named heads declares clauses told = record {
  flat = coe 1 0 (j. AreFlat (named j) (heads j) (declares j) (clauses j)) told.flat;
  outlines = (λ j. outlines_by (named j) (heads j) (declares j) (clauses j)) ∙ told.outlines;
}

module _ {names : List (List ℕ)} {hs : List FlatOutline} {ds : List FlatDeclared} {cs : List FlatClause} {ss : List Outline} (told : AreTold names hs ds cs ss) where
  pub told_stays : {more : List (List ℕ)} → Extends names more → AreTold more hs ds cs ss
  told_stays {more} x = record {
    flat = record { numbered = numbered_stays names more x hs ds cs told.flat.numbered; declares = told.flat.declares; clauses = told.flat.clauses };
    outlines = outlines_same names more x hs ds cs told.flat.numbered ∙ told.outlines;
  }

  pub told_joined : {gs : List FlatOutline} {es : List FlatDeclared} {fs : List FlatClause} {others : List Outline}
      → AreTold names gs es fs others → AreTold names (hs ++ gs) (ds ++ es) (cs ++ fs) (ss ++ others)
  told_joined {gs} {es} {fs} next = record {
    flat = record {
      numbered = record {
        seconds = each_append (λ h. IfSome h.second (λ n. n < length names)) hs gs told.flat.numbered.seconds next.flat.numbered.seconds;
        declared = each_append (λ d. d.name < length names) ds es told.flat.numbered.declared next.flat.numbered.declared;
        clauses = each_append (IsClauseNumbered names) cs fs told.flat.numbered.clauses next.flat.numbered.clauses;
      };
      declares = joined_counts (λ h. h.declares) hs gs ds es told.flat.declares next.flat.declares;
      clauses = joined_counts (λ h. h.clauses) hs gs cs fs told.flat.clauses next.flat.clauses;
    };
    outlines = outlines_append names hs gs ds es cs fs told.flat.declares told.flat.clauses ∙ ap₂ (λ (a b : List Outline). a ++ b) told.outlines next.outlines;
  }

  -- the first outlines, and the others
  module _ (n : ℕ) (within : n ≤ length hs) where
    abbrev front : List Outline
    front = outlines_by names (take n hs) (take (declares_in (take n hs)) ds) (take (clauses_in (take n hs)) cs)

    abbrev back : List Outline
    back = outlines_by names (drop n hs) (drop (declares_in (take n hs)) ds) (drop (clauses_in (take n hs)) cs)

    -- a part of each list, as `take` or `drop` give it
    part_flat : (part : (A : Type 0) → ℕ → List A → List A)
        → ((A : Type 0) (P : A → Type 0) (k : ℕ) (xs : List A) → Each P xs → Each P (part A k xs))
        → ((A B : Type 0) (f : A → ℕ) (k : ℕ) (xs : List A) (ys : List B) → total (map f xs) ≡ length ys → total (map f (part A k xs)) ≡ length (part B (total (map f (take k xs))) ys))
        → AreFlat names (part FlatOutline n hs) (part FlatDeclared (declares_in (take n hs)) ds) (part FlatClause (clauses_in (take n hs)) cs)
    part_flat part each counts = record {
      numbered = record {
        seconds = each FlatOutline (λ h. IfSome h.second (λ k. k < length names)) n hs told.flat.numbered.seconds;
        declared = each FlatDeclared (λ d. d.name < length names) (declares_in (take n hs)) ds told.flat.numbered.declared;
        clauses = each FlatClause (IsClauseNumbered names) (clauses_in (take n hs)) cs told.flat.numbered.clauses;
      };
      declares = counts FlatOutline FlatDeclared (λ h. h.declares) n hs ds told.flat.declares;
      clauses = counts FlatOutline FlatClause (λ h. h.clauses) n hs cs told.flat.clauses;
    }

    front_flat : AreFlat names (take n hs) (take (declares_in (take n hs)) ds) (take (clauses_in (take n hs)) cs)
    front_flat = part_flat (λ A. take) (λ A. each_take) (λ A B. front_counts)

    back_flat : AreFlat names (drop n hs) (drop (declares_in (take n hs)) ds) (drop (clauses_in (take n hs)) cs)
    back_flat = part_flat (λ A. drop) (λ A. each_drop) (λ A B. back_counts)

    both : ss ≡ front ++ back
    both =
        sym told.outlines
        ∙ sym (λ j. outlines_by names (take-append-drop n hs j) (take-append-drop (declares_in (take n hs)) ds j) (take-append-drop (clauses_in (take n hs)) cs j))
        ∙ outlines_append names (take n hs) (drop n hs) (take (declares_in (take n hs)) ds) (drop (declares_in (take n hs)) ds)
        (take (clauses_in (take n hs)) cs) (drop (clauses_in (take n hs)) cs) front_flat.declares front_flat.clauses

    so_many : length front ≡ n
    so_many = outlines_length names (take n hs) (take (declares_in (take n hs)) ds) (take (clauses_in (take n hs)) cs) ∙ length-take-le n hs within

    pub told_front : AreTold names (take n hs) (take (declares_in (take n hs)) ds) (take (clauses_in (take n hs)) cs) (take n ss)
    told_front = record {
      flat = front_flat;
      outlines = sym (ap (take n) both ∙ ap (λ (k : ℕ). take k (front ++ back)) (sym so_many) ∙ take-append_seam front back);
    }

    pub told_back : AreTold names (drop n hs) (drop (declares_in (take n hs)) ds) (drop (clauses_in (take n hs)) cs) (drop n ss)
    told_back = record {
      flat = back_flat;
      outlines = sym (ap (drop n) both ∙ ap (λ (k : ℕ). drop k (front ++ back)) (sym so_many) ∙ drop-append_seam front back);
    }
