-- What is told at a border, and more of it.
use Rattle.std.proofs.Common.{◌≡◌, sym, ap, ◌∙◌, List, [], ◌++◌, append-nil, append_assoc}
use Rattle.dos_io.specs.Outside.{grown}
use Rattle.dos_io.proofs.OutsideLaws.{grown-nothing, grown-twice}
use Rattle.dos_io.specs.Borders.{BorderState, Crossing, Tells, bytes_to, exchanges_of}
use Rattle.dos_io.specs.declared.border.Stream.TheVariants.{Output, Error}
use Rattle.group_rounds.specs.StatePlays.{Telling, ToldMore, told_at}

abbrev pub told_nothing : (t : Telling) → ToldMore t t
told_nothing t = record {
  exchanges = [];
  output = [];
  error = [];
  exchanges_are = sym (append-nil t.exchanges);
  output_is = grown-nothing t.output;
  error_is = grown-nothing t.error;
}

-- and then more
abbrev pub told_then : (t t' t'' : Telling) → ToldMore t t' → ToldMore t' t'' → ToldMore t t''
told_then t t' t'' h k = record {
  exchanges = h.exchanges ++ k.exchanges;
  output = h.output ++ k.output;
  error = h.error ++ k.error;
  exchanges_are = k.exchanges_are ∙ ap (λ es. es ++ k.exchanges) h.exchanges_are
      ∙ append_assoc t.exchanges h.exchanges k.exchanges;
  output_is = k.output_is ∙ ap (λ told. grown told k.output) h.output_is
      ∙ grown-twice t.output h.output k.output;
  error_is = k.error_is ∙ ap (λ told. grown told k.error) h.error_is
      ∙ grown-twice t.error h.error k.error;
}

-- and then as much
abbrev pub told_so : (t t' t'' : Telling) → ToldMore t t' → t''.exchanges ≡ t'.exchanges
    → t''.output ≡ t'.output → t''.error ≡ t'.error → ToldMore t t''
told_so t t' t'' h told out err = record {
  exchanges = h.exchanges;
  output = h.output;
  error = h.error;
  exchanges_are = told ∙ h.exchanges_are;
  output_is = out ∙ h.output_is;
  error_is = err ∙ h.error_is;
}

-- what crossed is told more
abbrev pub told_more : (cs : List Crossing) (before after : BorderState) → Tells before cs after
    → ToldMore (told_at before) (told_at after)
told_more cs before after h = record {
  exchanges = exchanges_of cs;
  output = bytes_to Output cs;
  error = bytes_to Error cs;
  exchanges_are = h.exchanges;
  output_is = h.bytes Output;
  error_is = h.bytes Error;
}
