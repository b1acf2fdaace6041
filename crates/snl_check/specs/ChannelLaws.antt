-- What follows of the lists of channels, one for each declaration.
use Rattle.std.proofs.Common.{◌≡◌, ℕ, zero, suc, ◌<◌, List, [], ◌∷◌, ◌++◌, length, get_or, refl, sym, ap, ◌∙◌, inl, inr, arith, length-append}
use Rattle.std.proofs.Math.Seq.{get_or-append_seam}
use Rattle.std.proofs.lemmas.Bool.{cases_lt}
use Rattle.std.proofs.lemmas.List.{get_or_append_left}
use Rattle.snl_check.specs.Channels.{AssignedChannel, channels_of, variables_before}

pub lists_count : (cs : List AssignedChannel) (n : ℕ) → length (variables_before cs n) ≡ n
lists_count cs zero = refl
lists_count cs (suc n) = omega (arith, length-append (variables_before cs n) (channels_of cs n ∷ []), lists_count cs n)

-- what the list of a declaration is
pub list_at : (cs : List AssignedChannel) (n v : ℕ) (d : List ℕ) → v < n → get_or (variables_before cs n) v d ≡ channels_of cs v
list_at cs zero v d h = absurd (omega (arith, h))
list_at cs (suc n) v d h =
    elim (cases_lt v n) [
      | inl l ↦ get_or_append_left (variables_before cs n) (channels_of cs n ∷ []) d v (omega (arith, l, lists_count cs n)) ∙ list_at cs n v d l
      | inr m ↦
          let same : v ≡ n = omega (arith, h, m) in
          let last : v ≡ length (variables_before cs n) = omega (arith, same, lists_count cs n) in
          ap (λ k. get_or (variables_before cs n ++ channels_of cs n ∷ []) k d) last ∙ get_or-append_seam (variables_before cs n) (channels_of cs n) [] d
          ∙ ap (channels_of cs) (sym same)
    ]
