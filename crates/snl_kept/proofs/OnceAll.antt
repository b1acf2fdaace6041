-- No offset and code occur twice in all that is found in a text: the families differ, and each is
-- found once.
use Rattle.std.proofs.Common.{◌≡◌, ℕ, List, ◌++◌, ap, append_assoc, subst, sym}
use Rattle.std.specs.List.{AllByRecursion as Each}
use Rattle.snl_codes.specs.declared.code.Code.TheVariants.{W02}
use Rattle.snl_codes.specs.Codes.{finder_of}
use Rattle.snl_scope.specs.Once.{AreFoundOnce}
use Rattle.snl_scope.specs.Linked as links
use Rattle.snl_kept.specs.declared.found.findings.Finding.{Finding}
use Rattle.snl_kept.specs.Checked.{checked_faults}
use Rattle.snl_kept.specs.Faults.{faults_of}
use Rattle.snl_kept.specs.Linked.{linked_faults, linked_of}
use Rattle.snl_kept.specs.OnceFound.{DifferInPlace}
use Rattle.snl_kept.specs.Program.{ProgramItem}
use Rattle.snl_kept.specs.Tables.{walked_faults}
use Rattle.snl_kept.proofs.Families.{IsOf, differ, item_family, link_family, of_items, of_parser, of_walks, walk_family}
use Rattle.snl_kept.proofs.OnceItems.{CheckLaws, IsMade, checked_made, checked_once, faults_coded, faults_once}
use Rattle.snl_kept.proofs.OnceLinks.{IsOfLinks, LinkLaws, linked_found, linked_once}
use Rattle.snl_kept.proofs.OnceTokens.{AreApart}
use Rattle.snl_kept.proofs.OnceWalked.{walked_coded, walked_once}
use Rattle.snl_facts.specs.Each.{each_append, each_weaker, two_append, EachTwo}

module _ (text : List ℕ) (xs : List ProgramItem) (checks : CheckLaws text) (laws : LinkLaws) (apart : AreApart text xs) (once : AreFoundOnce (links.faults_of (linked_of text xs))) where
  abbrev faulty : List Finding
  faulty = faults_of text xs

  abbrev linked : List Finding
  linked = linked_faults text xs

  abbrev checked : List Finding
  checked = checked_faults text xs

  abbrev walked : List Finding
  walked = walked_faults text xs

  -- ---- the family of each list

  linked_family : Each (IsOf of_items) linked
  linked_family = each_weaker (IsOfLinks text xs laws apart) (IsOf of_items) (λ f a. link_family f a.code) linked (linked_found text xs laws apart)

  checked_family : Each (IsOf of_items) checked
  checked_family = each_weaker (IsMade text xs) (IsOf of_items) (λ f a. item_family f a.made.code) checked (checked_made text xs checks apart)

  walked_family : Each (IsOf of_walks) walked
  walked_family = each_weaker (λ f. f.code ≡ W02) (IsOf of_walks) (λ f a. walk_family f (ap finder_of a)) walked (walked_coded text xs apart)

  -- ---- within the family of links and checks

  items_once : EachTwo DifferInPlace (linked ++ checked)
  items_once =
      two_append DifferInPlace (IsOfLinks text xs laws apart) (IsMade text xs) (λ f g a made. a.from_made g made) linked checked
      (linked_found text xs laws apart) (linked_once text xs laws apart once) (checked_made text xs checks apart) (checked_once text xs checks apart)

  -- ---- all

  pub all_once : EachTwo DifferInPlace (faulty ++ linked ++ checked ++ walked)
  all_once =
      subst (λ (l : List Finding). EachTwo DifferInPlace (l ++ walked)) (sym (append_assoc faulty linked checked))
      (two_append DifferInPlace IsNoWalk (IsOf of_walks) (λ f g a b. a g b) (faulty ++ (linked ++ checked)) walked no_walks
      (two_append DifferInPlace (IsOf of_parser) (IsOf of_items) (differ of_parser of_items (λ e. cc)) faulty (linked ++ checked) (faults_coded text xs apart) (faults_once text xs apart)
      (each_append (IsOf of_items) linked checked linked_family checked_family) items_once)
      walked_family (walked_once text xs apart))
    where
      IsNoWalk : Finding → Type 0
      IsNoWalk f = (g : Finding) → IsOf of_walks g → DifferInPlace f g

      no_walks : Each IsNoWalk (faulty ++ (linked ++ checked))
      no_walks =
          each_append IsNoWalk faulty (linked ++ checked)
          (each_weaker (IsOf of_parser) IsNoWalk (λ f a g. differ of_parser of_walks (λ e. cc) f g a) faulty (faults_coded text xs apart))
          (each_weaker (IsOf of_items) IsNoWalk (λ f a g. differ of_items of_walks (λ e. cc) f g a) (linked ++ checked) (each_append (IsOf of_items) linked checked linked_family checked_family))
