-- The kernel's list of services is the definition's.
use Rattle.std.proofs.Common.{◌≡◌, ℕ, Bool, true, false, cond, List, [], ◌∷◌, map, Some, refl}
use Rattle.std.proofs.Common.{ap, ◌∙◌}
use Rattle.std.specs.Prelude.{◌==◌, find}
use Rattle.dos_world.specs.Services.{Service as FlatService, services, service_by, service_of}
use Rattle.kernel_calls.specs.Built.{row_of, service_number, built_services, named}
use Rattle.kernel_calls.specs.Built.{definition_by}
use Rattle.kernel_calls.specs.declared.naming.Service.{Service}

-- each row is the definition's own
rows_are : services ≡ map row_of built_services
unfolding services
rows_are = refl

module _ (number : ℕ) where
  abbrev has_number : Service → Bool
  has_number service = service_number service == number

  -- the service of a number in a list of rows
  row_found : (names : List Service)
      → ◌≡◌ {A = FlatService}
      (service_by (find (λ row. row.0 == number) (map row_of names)))
      (definition_by (find has_number names))
  row_found [] = refl
  row_found (name ∷ names) = by (row_found names) (has_number name)
    where
      by : ◌≡◌ {A = FlatService}
          (service_by (find (λ row. row.0 == number) (map row_of names)))
          (definition_by (find has_number names))
          → (b : Bool)
          → ◌≡◌ {A = FlatService}
          (service_by (cond b (Some (row_of name))
          (find (λ row. row.0 == number) (map row_of names))))
          (definition_by (cond b (Some name) (find has_number names)))
      by others true = refl
      by others false = others

  pub named_is : service_of number ≡ definition_by (named number)
  named_is = ap (λ rows. service_by (find (λ row. row.0 == number) rows)) rows_are
      ∙ row_found built_services
