-- Which check fails first.
use Rattle.std.proofs.Common.{◌≡◌, ℕ, Option, Some, None, refl, ap, ◌∙◌}
use Rattle.machine_devices.specs.declared.image.Image.{Image}
use Rattle.monitor_model.specs.declared.sound.AuditCheck.{AuditCheck}
use Rattle.monitor_model.specs.declared.sound.AuditCheck.TheVariants as check
use Rattle.monitor_model.specs.declared.tables.Tables.{Tables}
use Rattle.monitor_model.specs.Checks.{header_fails, tables_fail, code_fails, regions_fail, sites_fail, lends_fail, inits_fail}
use Rattle.monitor_model.specs.MonitorCode.{MonitorCode}
use Rattle.monitor_model.specs.Sound.{Failure, unless, first_failure}

ends : (c : AuditCheck) (o : Option ℕ) (l : Option Failure) (a : ℕ) → o ≡ Some a → unless c o l ≡ Some (record { check = c; at = a })
ends c None l a e = absurd cc
ends c (Some b) l a e = let f : ℕ → Option Failure = λ x. Some (record { check = c; at = x }) in let g : b ≡ a = cc in ap f g

goes : (c : AuditCheck) (o : Option ℕ) (l : Option Failure) → o ≡ None → unless c o l ≡ l
goes c None l e = refl
goes c (Some b) l e = absurd cc

module _ (code : MonitorCode) (i : Image) (t : Tables) where
  abbrev of_inits : Option Failure
  of_inits = unless check.Inits (inits_fail i t) None

  abbrev of_lends : Option Failure
  of_lends = unless check.Lends (lends_fail t) of_inits

  abbrev of_sites : Option Failure
  of_sites = unless check.Sites (sites_fail t) of_lends

  abbrev of_regions : Option Failure
  of_regions = unless check.Regions (regions_fail i t) of_sites

  abbrev of_code : Option Failure
  of_code = unless check.Code (code_fails code.page i t) of_regions

  abbrev of_tables : Option Failure
  of_tables = unless check.Tables (tables_fail i t) of_code

  whole : first_failure code i t ≡ unless check.Header (header_fails i) of_tables
  unfolding first_failure
  whole = refl

  pub at_header : (a : ℕ) → header_fails i ≡ Some a → first_failure code i t ≡ Some (record { check = check.Header; at = a })
  at_header a e = whole ∙ ends check.Header (header_fails i) of_tables a e

  behind_header : header_fails i ≡ None → first_failure code i t ≡ of_tables
  behind_header e = whole ∙ goes check.Header (header_fails i) of_tables e

  pub at_tables : (a : ℕ) → header_fails i ≡ None → tables_fail i t ≡ Some a → first_failure code i t ≡ Some (record { check = check.Tables; at = a })
  at_tables a h e = behind_header h ∙ ends check.Tables (tables_fail i t) of_code a e

  module _ (h : header_fails i ≡ None) (p : tables_fail i t ≡ None) where
    behind_tables : first_failure code i t ≡ of_code
    behind_tables = behind_header h ∙ goes check.Tables (tables_fail i t) of_code p

    pub at_code : (a : ℕ) → code_fails code.page i t ≡ Some a → first_failure code i t ≡ Some (record { check = check.Code; at = a })
    at_code a e = behind_tables ∙ ends check.Code (code_fails code.page i t) of_regions a e

    module _ (c : code_fails code.page i t ≡ None) where
      behind_code : first_failure code i t ≡ of_regions
      behind_code = behind_tables ∙ goes check.Code (code_fails code.page i t) of_regions c

      pub at_regions : (a : ℕ) → regions_fail i t ≡ Some a → first_failure code i t ≡ Some (record { check = check.Regions; at = a })
      at_regions a e = behind_code ∙ ends check.Regions (regions_fail i t) of_sites a e

      module _ (r : regions_fail i t ≡ None) where
        behind_regions : first_failure code i t ≡ of_sites
        behind_regions = behind_code ∙ goes check.Regions (regions_fail i t) of_sites r

        pub at_sites : (a : ℕ) → sites_fail t ≡ Some a → first_failure code i t ≡ Some (record { check = check.Sites; at = a })
        at_sites a e = behind_regions ∙ ends check.Sites (sites_fail t) of_lends a e

        module _ (s : sites_fail t ≡ None) where
          behind_sites : first_failure code i t ≡ of_lends
          behind_sites = behind_regions ∙ goes check.Sites (sites_fail t) of_lends s

          pub at_lends : (a : ℕ) → lends_fail t ≡ Some a → first_failure code i t ≡ Some (record { check = check.Lends; at = a })
          at_lends a e = behind_sites ∙ ends check.Lends (lends_fail t) of_inits a e

          module _ (l : lends_fail t ≡ None) where
            behind_lends : first_failure code i t ≡ of_inits
            behind_lends = behind_sites ∙ goes check.Lends (lends_fail t) of_inits l

            pub at_inits : (a : ℕ) → inits_fail i t ≡ Some a → first_failure code i t ≡ Some (record { check = check.Inits; at = a })
            at_inits a e = behind_lends ∙ ends check.Inits (inits_fail i t) None a e

            pub none_fails : inits_fail i t ≡ None → first_failure code i t ≡ None
            none_fails e = behind_lends ∙ goes check.Inits (inits_fail i t) None e
