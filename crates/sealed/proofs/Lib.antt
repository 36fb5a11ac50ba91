-- NonceLaws: nonces. FrameLaws: a text in its frame, as the code puts it and takes it. FrameTrip: what was framed is there again, under any cipher that opens what
-- it sealed; prepared keys. RecordLaws, FileLaws: log records and checkpoint files. LogTrip: records in a log, and beside files. TornLaws: the beginning
-- of a record at the end of a log.
pub mod NonceLaws
pub mod FrameLaws
pub mod FrameTrip
pub mod RecordLaws
pub mod RecordTrip
pub mod FileLaws
pub mod LogTrip
pub mod TornLaws
