-- A page and its writer are a sink.
use Rattle.std.specs.Prelude.{◌++◌, refl}
use Rattle.std.proofs.Common.{◌∙◌, append_assoc, sym}
use Rattle.std.proofs.lemmas.List.{append-nil}
use Rattle.snl_listing.specs.Sink.{IsSink}
use Rattle.snl_run.specs.Paged.{Broke, Desk, Took}
use Rattle.snl_script.specs.SaidLaws.{AppendsPart-front, AppendsPart-on, AppendsPart-same, Says-on, Says-page, Says-same}

pub desks_go_on : {S : Type 0} (desk : S → Desk) → IsSink (λ s t bytes. Took (desk s) (desk t) bytes) (λ s t bytes. Broke (desk s) (desk t) bytes)
desks_go_on desk = record {
  nothing = λ s. record { writer = refl; says = Says-page (desk s).contents (desk s).page _ (sym (append-nil (desk s).page)); failed = refl };
  more = λ s t u xs ys h k. record { writer = k.writer ∙ h.writer; says = Says-same _ _ _ _ _ (append_assoc (desk s).page xs ys) (Says-on _ _ _ _ _ ((desk s).page ++ xs) ys h.says k.says); failed = k.failed ∙ h.failed };
  broken_on = λ s t u xs ys h k. record { writer = k.writer ∙ h.writer; part = AppendsPart-same _ _ _ _ (append_assoc (desk s).page xs ys) (AppendsPart-on _ _ _ _ ((desk s).page ++ xs) ys h.says k.part); failed = k.failed };
  broken_before = λ s t xs ys k. record { writer = k.writer; part = AppendsPart-same _ _ _ _ (append_assoc (desk s).page xs ys) (AppendsPart-front _ _ ((desk s).page ++ xs) ys k.part); failed = k.failed };
}
