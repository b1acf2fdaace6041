-- A string as a sink.
use Rattle.std.proofs.Common.{◌≡◌, ℕ, List, ◌++◌, sym, ap, ◌∙◌, append_assoc}
use Rattle.std.proofs.lemmas.List.{append-nil}
use Rattle.snl_listing.specs.Sink.{GrewByFront, IsSink}

pub strings_go_on : {S : Type 0} (bytes : S → List ℕ) → IsSink (λ s t xs. bytes t ≡ bytes s ++ xs) (λ s t xs. GrewByFront (bytes s) (bytes t) xs)
strings_go_on bytes = record {
  nothing = λ s. sym (append-nil (bytes s));
  more = λ s t u xs ys h k. k ∙ ap (λ l. l ++ ys) h ∙ append_assoc (bytes s) xs ys;
  broken_on = λ s t u xs ys h g. record { front = xs ++ g.front; lost = g.lost; all = append_assoc xs g.front g.lost ∙ ap (λ l. xs ++ l) g.all; grown = g.grown ∙ ap (λ l. l ++ g.front) h ∙ append_assoc (bytes s) xs g.front };
  broken_before = λ s t xs ys g. record { front = g.front; lost = g.lost ++ ys; all = sym (append_assoc g.front g.lost ys) ∙ ap (λ l. l ++ ys) g.all; grown = g.grown };
}
