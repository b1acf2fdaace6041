-- What of the codes that links and items share is left to the links.
use Rattle.std.specs.Prelude.{◌≡◌, false}
use Rattle.std.specs.List.{Contains}
use Rattle.snl_codes.specs.declared.code.Code.TheVariants.{E07}
use Rattle.snl_summary.specs.declared.summary.Outline.{Outline}
use Rattle.snl_scope.specs.Names.{has_own_scope}
use Rattle.snl_summary.specs.RisingTokens.{declared_tokens}
use Rattle.snl_item_check.specs.declared.findings.ItemFault.{ItemFault}

-- E07 is at no name that the item declares in a scope that isn't its own: these are for the links
-- to find.
abbrev pub LeavesToLinks : Outline → ItemFault → Type 0
LeavesToLinks s fault = fault.code ≡ E07 → has_own_scope s.role ≡ false → Contains (declared_tokens s) fault.token → ⊥
