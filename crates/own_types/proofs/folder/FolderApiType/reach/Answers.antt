use Rattle.own_types.proofs.Folders.{folder_reaches}
use Rattle.own_types.proofs.folder.FolderApiType.reach.Goals as goal

pub returns : goal.returns
returns c = folder_reaches
