pub mod NumberedLogs
