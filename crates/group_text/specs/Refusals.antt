-- What the refusal of a field or a row is called of a saved group. This project's own rule.
use Rattle.text_fields.specs.declared.refusal.FieldError.{FieldError}
use Rattle.text_fields.specs.declared.refusal.FieldError.TheVariants as field
use Rattle.text_fields.specs.declared.refusal.RowError.{RowError}
use Rattle.text_fields.specs.declared.refusal.RowError.TheVariants as row
use Rattle.group_text.specs.declared.refusal.GroupRefusal.{GroupRefusal}
use Rattle.group_text.specs.declared.refusal.GroupRefusal.TheVariants as refusal
use Rattle.group_text.specs.declared.refusal.GroupError.{GroupError}
use Rattle.group_text.specs.declared.refusal.GroupError.TheVariants as error

abbrev pub field_refusal : FieldError → GroupRefusal
field_refusal (field.Short place) = refusal.Short place
field_refusal (field.Range place) = refusal.Field place

abbrev pub row_error : RowError → GroupError
row_error (row.Refused e) = error.Refused (field_refusal e)
row_error row.Memory = error.Memory
