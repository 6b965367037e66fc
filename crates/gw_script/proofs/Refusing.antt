-- A fault that reading answered refuses the model.
use Rattle.std.proofs.Common.{ℕ, List}
use Rattle.gw_lines.specs.declared.fault.LineFault.{LineFault}
use Rattle.gw_lines.specs.declared.fault.LineFault.TheVariants as lines
use Rattle.gw_lines.specs.Whole.{AnswersAt}
use Rattle.gw_script.specs.declared.opening.Options.{Options}
use Rattle.gw_script.specs.Opening.{Refuses, kind_of}

pub line_refuses : (model : List ℕ) (o : Options) (line : ℕ) (f : LineFault) → AnswersAt model line f →
    Refuses model o (kind_of f (record { line = line; fault = f }))
line_refuses model o line lines.Memory h = tt
line_refuses model o line lines.TooLong h = h
line_refuses model o line lines.BadByte h = h
line_refuses model o line lines.UnknownVerb h = h
line_refuses model o line lines.BadLabel h = h
line_refuses model o line (lines.BadOperand n) h = h
line_refuses model o line (lines.MissingOperand n) h = h
line_refuses model o line (lines.ExtraOperand n) h = h
line_refuses model o line lines.BadPairs h = h
