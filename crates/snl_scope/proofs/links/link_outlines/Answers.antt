use Rattle.std.proofs.Common.{[], ap, sym, ◌∙◌}
use Rattle.snl_scope.specs.Flags.{flags_of}
use Rattle.snl_scope.specs.Linked.{faults_of}
use Rattle.snl_scope.specs.Names.{entries, repetitions}
use Rattle.snl_scope.proofs.links.link_outlines.Goals as goal

pub links_of-requires : goal.links_of-requires
links_of-requires c =
    let names = c.in_ok-names.ensures in
    let made = c.in_ok-said.ensures in
    record {
      flags = names.flags ∙ ap flags_of (sym names.scopes);
      repeated = names.repeated ∙ ap (λ ss. repetitions [] (entries ss)) (sym names.scopes);
      said = made.said;
      faults = made.faults ∙ ap (λ ks. faults_of (record { outlines = c.in_ok-names.names.scopes; kinds = ks })) c.deref.ensures.value;
    }
