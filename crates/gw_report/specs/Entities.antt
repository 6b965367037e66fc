-- What the sections of facilities, queues and storages share: how an entity is called, and an average. (Manual. Our
-- own: three decimals, cut off, and 0.000 where there is nothing to divide by.)
use Rattle.std.specs.Prelude.{ℕ, List, decimal}
use Rattle.gw_names.specs.declared.key.Key.{Key}
use Rattle.gw_names.specs.declared.key.Key.TheVariants.{Num, Named, Defined}
use Rattle.gw_nums.specs.Ratio.{thousandths_of}
use Rattle.gw_report.specs.Cells.{decimals}

-- an entity's number in digits, or its name
abbrev pub key_text : Key → List ℕ
key_text (Num number) = decimal number
key_text (Named name) = name
key_text (Defined name) = name

-- a sum divided by what it goes over
abbrev pub average : ℕ → ℕ → List ℕ
average sum over = decimals (thousandths_of sum over)
