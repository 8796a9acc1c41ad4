use Rattle.file_laws.proofs.DownloadWitness.{download_is_met, refused_get_is_met}
use Rattle.file_laws.proofs.Downloads as downloads
use Rattle.file_laws.proofs.laws.download.Goals as goal

pub returns-clause-downloaded : goal.returns-clause-downloaded
returns-clause-downloaded g c = downloads.file_is_downloaded g.R.Reading.shows

pub returns-clause-safe : goal.returns-clause-safe
returns-clause-safe g c = downloads.file_is_kept_safe g.R.Reading.shows

pub returns-clause-met : goal.returns-clause-met
returns-clause-met g c = download_is_met

pub returns-clause-met_dropped : goal.returns-clause-met_dropped
returns-clause-met_dropped g c = refused_get_is_met
