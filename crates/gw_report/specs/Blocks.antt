-- The lines of a version's blocks: their labels, and what was counted at them. (Manual.)
use Rattle.std.specs.Prelude.{ℕ, List, [], ◌∷◌, Option, Some, None, decimal, codes}
use Rattle.std.specs.List.{flat_map}
use Rattle.gw_names.specs.Words.{word_of_block}
use Rattle.gw_meaning.specs.Listing.{Listing, block_of}
use Rattle.gw_meaning.specs.declared.watched.Watched.TheVariants as watched
use Rattle.gw_meaning.specs.Changes.{retries}
use Rattle.gw_meaning.specs.Machine.{Machine, count_at}
use Rattle.gw_meaning.specs.declared.statement.Block.{Block}
use Rattle.gw_meaning.specs.declared.statement.Numbered.{Numbered}
use Rattle.gw_meaning.specs.declared.transaction.Count.{Count}
use Rattle.gw_report.specs.declared.column.Side.TheVariants.{Left, Right}
use Rattle.gw_report.specs.Layout.{Column, table_of}
use Rattle.gw_report.specs.Chains.{position_of}

abbrev pub block_columns : List Column
block_columns =
    record { title = codes "LABEL"; width = 10; side = Left } ∷
    record { title = codes "LOC"; width = 5; side = Right } ∷
    record { title = codes "BLOCK TYPE"; width = 10; side = Left }
    ∷ record { title = codes "ENTRY COUNT"; width = 11; side = Right } ∷
    record { title = codes "CURRENT COUNT"; width = 13; side = Right } ∷
    record { title = codes "RETRY"; width = 6; side = Right } ∷ []

-- a label, or nothing
abbrev pub label_text : Option (List ℕ) → List ℕ
label_text None = []
label_text (Some label) = label

-- a block's line in the list of blocks: its label, its position, its verb, its counts, and how many wait for a change of
-- these
unfoldable pub block_line : Listing → Numbered → Block → Count → ℕ → List (List ℕ)
block_line t line block count retry =
    label_text line.statement.label ∷ decimal (position_of t (Some line.number)) ∷ word_of_block block.verb ∷
    decimal count.entries ∷ decimal count.content ∷ decimal retry ∷ []

abbrev pub block_lines_of : Listing → Machine → Numbered → Option Block → List (List (List ℕ))
block_lines_of t s line None = []
block_lines_of t s line (Some block) =
    block_line t line block (count_at s.counts line.number) (retries s (watched.Counts line.number)) ∷ []

abbrev pub block_lines : Listing → Machine → Numbered → List (List (List ℕ))
block_lines t s line = block_lines_of t s line (block_of line)

-- the blocks, in order
unfoldable pub blocks_text : Listing → Machine → List ℕ
blocks_text t s = table_of block_columns (flat_map (block_lines t s) t.lines)
