-- The families of findings, by who finds them. Those of two families have different codes.
use Rattle.std.proofs.Common.{◌≡◌, true, refl, sym, ap, ◌∙◌}
use Rattle.std.proofs.lemmas.Bool.{false≢true}
use Rattle.snl_codes.specs.Codes.{Finder, finder_of, finds_by_links, finds_in_items, is_item_code, is_link_code, links, links_or_rules, options, parser, reachability, rules, undeclared_names}
use Rattle.snl_kept.specs.declared.found.findings.Finding.{Finding}
use Rattle.snl_kept.specs.OnceFound.{DifferInPlace}

-- The links and the checks of items share a code, so their findings are one family.
pub data Family : Type 0 where
  of_parser : Family
  of_items : Family
  of_walks : Family

abbrev pub family_of : Finder → Family
family_of parser = of_parser
family_of links = of_items
family_of links_or_rules = of_items
family_of rules = of_items
family_of undeclared_names = of_items
family_of options = of_items
family_of reachability = of_walks

abbrev pub IsOf : Family → Finding → Type 0
IsOf k f = family_of (finder_of f.code) ≡ k

by_links : (d : Finder) → finds_by_links d ≡ true → family_of d ≡ of_items
by_links parser h = absurd (false≢true h)
by_links links h = refl
by_links links_or_rules h = refl
by_links rules h = absurd (false≢true h)
by_links undeclared_names h = absurd (false≢true h)
by_links options h = absurd (false≢true h)
by_links reachability h = absurd (false≢true h)

in_items : (d : Finder) → finds_in_items d ≡ true → family_of d ≡ of_items
in_items parser h = absurd (false≢true h)
in_items links h = absurd (false≢true h)
in_items links_or_rules h = refl
in_items rules h = refl
in_items undeclared_names h = refl
in_items options h = refl
in_items reachability h = absurd (false≢true h)

pub link_family : (f : Finding) → is_link_code f.code ≡ true → IsOf of_items f
link_family f h = by_links (finder_of f.code) h

pub item_family : (f : Finding) → is_item_code f.code ≡ true → IsOf of_items f
item_family f h = in_items (finder_of f.code) h

pub walk_family : (f : Finding) → finder_of f.code ≡ reachability → IsOf of_walks f
walk_family f h = ap family_of h

-- Findings of two families have different codes.
pub differ : (k m : Family) → (k ≡ m → ⊥) → (f g : Finding) → IsOf k f → IsOf m g → DifferInPlace f g
differ k m apart f g a b offset code = apart (sym a ∙ ap (λ c. family_of (finder_of c)) code ∙ b)
