-- The faults of the steps of a question, as faults of the question.
use Rattle.access_paths.specs.declared.tree.SplitFault.{SplitFault}
use Rattle.access_paths.specs.declared.tree.SplitFault.TheVariants as split
use Rattle.alias_cases.specs.declared.case.CasesFault.{CasesFault}
use Rattle.alias_cases.specs.declared.case.CasesFault.TheVariants as cases
use Rattle.cube_cover.specs.declared.fault.CoverFault.{CoverFault}
use Rattle.cube_cover.specs.declared.fault.CoverFault.TheVariants as cover
use Rattle.derivation.specs.declared.reply.AskFault.{AskFault}
use Rattle.derivation.specs.declared.reply.AskFault.TheVariants.{Path, Cases, Cover, Memory}

abbrev pub of_split : SplitFault → AskFault
of_split split.Path = Path
of_split split.Memory = Memory

abbrev pub of_cases : CasesFault → AskFault
of_cases cases.Cases = Cases
of_cases cases.Memory = Memory

abbrev pub of_cover : CoverFault → AskFault
of_cover cover.Cover = Cover
of_cover cover.Memory = Memory
